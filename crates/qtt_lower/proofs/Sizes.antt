-- What a definition's size and blocks want.
use Rattle.std.proofs.Common.{◌≡◌, ℕ, zero, suc, ◌+◌, ◌<◌, List, [], ◌∷◌, length, map, drop, get_or, Some, None, ◌++◌, append_assoc, refl, sym, ◌∙◌, ap, arith}
use Rattle.std.proofs.lemmas.Grind.{common_steps}
use Rattle.std.proofs.lemmas.List.{map-append}
use Rattle.qtt_base.specs.declared.place.GlobalId.{GlobalId}
use Rattle.qtt_term.specs.Signature.{Definition, Env, definition_of}
use Rattle.qtt_erase.specs.Erasure.{erased_body, erased_bodies}

pub body_found : (E : Env) (d : GlobalId) (D : Definition) → Some D ≡ E.definition d →
    erased_bodies E d ≡ erased_body E D.mult D.body
body_found E d D e = ap (λ o. erased_body E (definition_of o).mult (definition_of o).body) (sym e)

pub body_absent : (E : Env) (d : GlobalId) → None ≡ E.definition d → erased_bodies E d ≡ None
body_absent E d e = ap (λ o. erased_body E (definition_of o).mult (definition_of o).body) (sym e)

pub ruleset sizes = (common_steps, body_found, body_absent)

-- ---- along lists
next_mapped : {X Y Z : Type 0} (f : X → Y) (g : Y → Z) (xs : List X) (k : ℕ) (d : X) → k < length xs →
    map g (map f (drop k xs)) ≡ g (f (get_or xs k d)) ∷ map g (map f (drop (suc k) xs))
next_mapped f g [] k d h = absurd (omega arith)
next_mapped f g (x ∷ xs) zero d h = refl
next_mapped f g (x ∷ xs) (suc k) d h = next_mapped f g xs k d (omega arith)

one_more_mapped : {X Y Z : Type 0} (f : X → Y) (g : Y → Z) (xs : List X) (k : ℕ) (d : X) → k < length xs →
    map g (map f (drop k xs)) ≡ g (f (get_or xs k d)) ∷ map g (map f (drop (k + 1) xs))
one_more_mapped f g xs k d h =
    let e : suc k ≡ k + 1 = omega arith in
    next_mapped f g xs k d h ∙ ap (λ n. g (f (get_or xs k d)) ∷ map g (map f (drop n xs))) e

-- one more is made of the elements, each in two steps
pub one_more_made : {A X Y Z : Type 0} (v : A → Z) (f : X → Y) (g : Y → Z) (made more : List A) (a : A)
    (xs : List X) (k : ℕ) (d : X) → k < length xs →
    more ≡ made ++ a ∷ [] → v a ≡ g (f (get_or xs k d)) → map v made ++ map g (map f (drop k xs)) ≡ map g (map f xs) →
    map v more ++ map g (map f (drop (k + 1) xs)) ≡ map g (map f xs)
one_more_made v f g made more a xs k d h e s all =
    ap (λ m. map v m ++ map g (map f (drop (k + 1) xs))) e ∙ ap (λ m. m ++ map g (map f (drop (k + 1) xs)))
    (map-append v made (a ∷ []))
    ∙ append_assoc (map v made) (v a ∷ []) (map g (map f (drop (k + 1) xs)))
    ∙ ap (λ z. map v made ++ z ∷ map g (map f (drop (k + 1) xs))) s
    ∙ ap (λ m. map v made ++ m) (sym (one_more_mapped f g xs k d h)) ∙ all
