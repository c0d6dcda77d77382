use Rattle.std.proofs.Common.{◌≡◌, ◌++◌, [], ◌∷◌, rules}
use Rattle.qtt_term.specs.Substitution.{lifts}
use Rattle.qtt_term.specs.Telescopes.{filled}
use Rattle.qtt_term.proofs.Binders.{if-ok, raised-step, under-seen}
use Rattle.qtt_term.proofs.telescopes.under.Goals as goal

pub loop-value-preserved : goal.loop-value-preserved
loop-value-preserved c =
    let e : c.push.new.self.items ≡ c.loop-value.raised.items ++ c.in_ok-shift.field-0 ∷ [] = search rules in
    raised-step c.loop-value.raised.items c.push.new.self.items c.value-item.result c.in_ok-shift.field-0
    c.args.values.now c.in_ok-by.by c.loop-value.value-index
    c.loop-value-test.true c.value-item.is e c.in_ok-shift.ensures c.loop-value.invariant

pub returns : goal.returns
returns c =
    let vs = c.args.values.now in
    if-ok (λ v. v.items ≡ c.loop-value.raised.items ++ c.in_ok-variables.field-0.items)
    (λ v. filled v.items ≡ lifts c.args.depth (filled vs)) c.joined.result
    (λ v e. under-seen vs c.loop-value.raised.items c.in_ok-variables.field-0.items v.items c.in_ok-by.by
    c.args.depth c.loop-value.value-index
    c.in_ok-by.ensures c.loop-value-test.false c.loop-value.invariant c.in_ok-variables.ensures.above e)
    c.joined.ensures
