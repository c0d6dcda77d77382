-- A free local name weighs what stands for it.
use Rattle.std.proofs.Common.{◌∙◌, ap, sym, ℕ}
use Rattle.qtt_syntax.specs.declared.expr.Target.{Target}
use Rattle.qtt_implicit.specs.Moving.{replaced_name}
use Rattle.qtt_implicit.specs.Nodes.{used_name}
use Rattle.qtt_implicit.specs.Slots.{slot_list, stands, weight_of}
use Rattle.qtt_implicit.proofs.Weights.{free_weight}
use Rattle.qtt_implicit.proofs.filling.weighing.weigh_name.Goals as goal

pub returns-in-Some : goal.returns-in-Some
returns-in-Some c =
    let n = used_name c.args.used in
    let σ = stands c.args.rest (slot_list c.args.slots.now) in
    let h = c.in-Some.ensures in
    c.weight_at.ensures n
    ∙ ap (λ (k : ℕ). weight_of (σ k n)) h.1
    ∙ sym (free_weight σ c.args.depth c.in-Local.index n h.0)
    ∙ sym (ap (λ (t : Target). weight_of (replaced_name σ c.args.depth n t)) c.in-Local.is)
