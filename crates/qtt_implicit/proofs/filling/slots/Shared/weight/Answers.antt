-- What is moved weighs as much.
use Rattle.std.proofs.Common.{◌∙◌, sym}
use Rattle.qtt_implicit.specs.Moving.{replaced}
use Rattle.qtt_implicit.specs.Nodes.{node_tree}
use Rattle.qtt_implicit.specs.Slots.{slot_list, stands}
use Rattle.qtt_implicit.proofs.Moves.{weight_shifted}
use Rattle.qtt_implicit.proofs.Standing.{if_ok}
use Rattle.qtt_implicit.proofs.filling.slots.Shared.weight.Goals as goal

pub returns : goal.returns
returns c =
    let s = c.args.self in
    if_ok c.weigh.result _ _
    (λ w e. e ∙ sym (weight_shifted s.moved (replaced (stands s.rest (slot_list s.slots.now)) (node_tree s.tree.now))))
    c.weigh.ensures
