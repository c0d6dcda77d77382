-- What arguments make of a signature.
use Rattle.std.specs.Prelude.{◌≡◌}
use Rattle.qtt_syntax.specs.Tree.{Tree}
use Rattle.qtt_implicit.specs.Matching.{Slots}
use Rattle.qtt_implicit.specs.TextTypes.{open_list, type_tree}
use Rattle.qtt_implicit.specs.declared.filling.givens.Judged.{Judged}

-- slots and a text type
abbrev pub AreJudged : Judged → Slots × Tree → Type 0
AreJudged j r = (open_list j.slots ≡ r.0) × (type_tree j.ty ≡ r.1)

abbrev pub judged_pair : Judged → Slots × Tree
judged_pair j = (open_list j.slots, type_tree j.ty)
