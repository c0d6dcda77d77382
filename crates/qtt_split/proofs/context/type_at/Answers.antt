use Rattle.std.proofs.Common.{◌≡◌, ◌∙◌, ◌-◌, suc, length, get_or, ap, sym, arith}
use Rattle.qtt_usage.specs.declared.mult.Mult.{Mult}
use Rattle.qtt_term.specs.declared.term.Term as code
use Rattle.qtt_term.specs.Judgement.{type_at}
use Rattle.qtt_term.specs.Shift.{raised}
use Rattle.qtt_term.specs.Substitution.{ren, shift}
use Rattle.qtt_term.specs.View.{term}
use Rattle.qtt_term.proofs.Binders.{if-ok, var-seen}
use Rattle.qtt_term.proofs.Moves.{raised-zero}
use Rattle.qtt_unify.specs.View.{binders}
use Rattle.qtt_split.proofs.Living.{type-of, type-past_all}
use Rattle.qtt_split.proofs.context.type_at.Goals as goal

pub returns-in_ok-number : goal.returns-in_ok-number
returns-in_ok-number c =
    let Γ = c.args.context.now in
    let i = c.args.variable in
    let b = c.index-context-context.result in
    let k : c.in_ok-number.field-0 ≡ suc i = omega (arith, c.in_ok-number.ensures) in
    if-ok (λ t. term t ≡ ren (raised 0 c.in_ok-number.field-0) (term (get_or Γ (length Γ - 1 - i) b).1))
    (λ t. term t ≡ type_at (binders Γ) i) c.shift.result
    (λ t h. h ∙
    ap (λ (x : Mult × code.Term). ren (raised 0 c.in_ok-number.field-0) (term x.1)) (sym c.index-context-context.is) ∙
    raised-zero c.in_ok-number.field-0 (term b.1) ∙ ap (λ n. ren (shift n) (term b.1)) k ∙
    type-of Γ i b c.if-place-context.true c.index-context-context.is)
    c.shift.ensures

pub returns-else-place-context : goal.returns-else-place-context
returns-else-place-context c =
    var-seen c.args.variable ∙ type-past_all c.args.context.now c.args.variable c.if-place-context.false
