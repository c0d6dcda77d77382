use Rattle.std.proofs.Common.{ap, ◌∙◌, sym}
use Rattle.qtt_unify.proofs.Walks.{mult-of, mult-past_all}
use Rattle.qtt_split.proofs.context.mult_at.Goals as goal

pub returns-then-place-context : goal.returns-then-place-context
returns-then-place-context c =
    ap (λ b. b.0) (sym c.index-context-context.is) ∙
    mult-of c.args.context.now c.args.variable c.index-context-context.result c.if-place-context.true
    c.index-context-context.is

pub returns-else-place-context : goal.returns-else-place-context
returns-else-place-context c = mult-past_all c.args.context.now c.args.variable c.if-place-context.false
