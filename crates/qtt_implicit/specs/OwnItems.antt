-- The own items of a text, as the code has them.
use Rattle.std.specs.Prelude.{ℕ, suc, if◌then◌else◌, List, [], ◌∷◌, map, find, Option, Some, None, option_map}
use Rattle.qtt_names.specs.Exports.{Sig}
use Rattle.qtt_names.specs.Scope.{same_name}
use Rattle.qtt_implicit.specs.Signatures.{signature_of}
use Rattle.qtt_implicit.specs.declared.filling.own_items.OwnItem.{OwnItem}

abbrev pub own_of : OwnItem → List ℕ × Sig
own_of o = (o.name.now, signature_of o.sig)

abbrev pub owned : List OwnItem → List (List ℕ × Sig)
owned own = map own_of own

-- the signature of the first item of a name
abbrev pub named_among : List (List ℕ × Sig) → List ℕ → Option Sig
named_among own n = option_map (λ (o : List ℕ × Sig). o.1) (find (λ (o : List ℕ × Sig). same_name o.0 n) own)

-- the place of the first item of a name
abbrev pub place_named : List OwnItem → List ℕ → Option ℕ
place_named [] n = None
place_named (o ∷ own) n = if same_name o.name.now n then Some 0 else option_map suc (place_named own n)
