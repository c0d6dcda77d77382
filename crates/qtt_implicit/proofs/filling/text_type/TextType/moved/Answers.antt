-- What is moved twice is moved by the sum.
use Rattle.std.proofs.Common.{◌∙◌, ap, sym, ℕ}
use Rattle.qtt_implicit.specs.Nodes.{node_tree}
use Rattle.qtt_implicit.specs.Slots.{seen, slot_list}
use Rattle.qtt_implicit.proofs.Moves.{seen_moved}
use Rattle.qtt_implicit.proofs.filling.text_type.TextType.moved.Goals as goal

pub returns : goal.returns
returns c =
    let s = c.args.self.shared in
    ap (λ (d : ℕ). seen s.rest d (slot_list s.slots.now) (node_tree s.tree.now)) c.in_ok-deeper.ensures
    ∙ sym (seen_moved s.rest s.moved c.args.by (slot_list s.slots.now) (node_tree s.tree.now))
