-- Where constructors stand, by their ids.
use Rattle.std.specs.Prelude.{ℕ, suc, List, [], ◌∷◌, Option, option_map}
use Rattle.qtt_base.specs.declared.place.GlobalId.{GlobalId}
use Rattle.qtt_term.specs.declared.globals.Place.{Place}
use Rattle.qtt_term.specs.declared.term.ConId.{ConId}
use Rattle.qtt_term.specs.Keyed.{with_id}
use Rattle.qtt_term.specs.Items.{ConstructorEntry}

abbrev pub place_id : Place → GlobalId
place_id p = p.id

abbrev pub place_of : List Place → GlobalId → Option ConId
place_of ps id = option_map (λ p. p.con) (with_id place_id id ps)

-- the places of the constructors of family f from place n on
abbrev pub places_from : GlobalId → ℕ → List ConstructorEntry → List Place
places_from f n [] = []
places_from f n (c ∷ cs) = record { id = c.id; con = record { family = f; place = n } } ∷ places_from f (suc n) cs
