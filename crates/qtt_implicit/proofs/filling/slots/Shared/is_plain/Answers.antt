-- What stands here as it is.
use Rattle.std.proofs.Common.{◌≡◌, ◌∙◌, ap, ℕ, arith}
use Rattle.qtt_implicit.specs.Nodes.{node_tree}
use Rattle.qtt_implicit.specs.Slots.{seen, slot_list}
use Rattle.qtt_implicit.specs.declared.filling.slots.Rest.TheVariants as rest
use Rattle.qtt_implicit.proofs.Moves.{seen_plain}
use Rattle.qtt_implicit.proofs.filling.slots.Shared.is_plain.Goals as goal

pub returns-then-by-eq0 : goal.returns-then-by-eq0
returns-then-by-eq0 c = λ h.
    let s = c.args.self in
    let t = node_tree s.tree.now in
    let here : s.moved ≡ 0 = grind (arith, h) in
    ap (λ r. seen r s.moved (slot_list s.slots.now) t) c.in-Outer.is
    ∙ ap (λ (k : ℕ). seen (rest.Outer k) s.moved (slot_list s.slots.now) t) c.if-by-eq0.true
    ∙ ap (λ (k : ℕ). seen (rest.Outer 0) k (slot_list s.slots.now) t) here
    ∙ ap (λ x. seen (rest.Outer 0) 0 (slot_list x) t) c.in-End.is
    ∙ seen_plain t
