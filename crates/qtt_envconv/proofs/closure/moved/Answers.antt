-- Values that are moved, or stay where they are.
use Rattle.std.proofs.Common.{◌∙◌, ap, sym, arith}
use Rattle.std.proofs.lemmas.Result.{IfOk-weaker}
use Rattle.qtt_term.specs.Substitution.{sub, shift}
use Rattle.qtt_envconv.specs.Closures.{values}
use Rattle.qtt_envconv.proofs.Closures.{shift-none, sub-then_ren}
use Rattle.qtt_envconv.proofs.closure.moved.Goals as goal

pub returns-then-by-eq0 : goal.returns-then-by-eq0
returns-then-by-eq0 c = λ t. sym (shift-none c.args.by (sub (values c.args.values.now) t) (omega arith))

pub returns-else-by-eq0 : goal.returns-else-by-eq0
returns-else-by-eq0 c =
    IfOk-weaker c.placed.result _ _
    (λ r e t. ap (λ v. sub (values v) t) e ∙ sub-then_ren (shift c.args.by) (values c.args.values.now) t)
    c.placed.ensures
