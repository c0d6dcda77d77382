-- A plain tree is seen as it is.
use Rattle.std.proofs.Common.{◌∙◌, ap}
use Rattle.qtt_implicit.specs.Nodes.{node_tree}
use Rattle.qtt_implicit.specs.Slots.{seen, slot_list}
use Rattle.qtt_implicit.specs.declared.filling.slots.Rest.TheVariants as rest
use Rattle.qtt_implicit.proofs.Moves.{seen_plain}
use Rattle.qtt_implicit.proofs.filling.text_type.TextType.here.Goals as goal

pub returns : goal.returns
returns c =
    ap (λ s. seen (rest.Outer 0) 0 (slot_list s) (node_tree c.args.tree.now)) c.in_ok-placed.ensures
    ∙ seen_plain (node_tree c.args.tree.now)
