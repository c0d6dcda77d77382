use Rattle.std.proofs.Common.{◌≡◌, ◌++◌, [], ◌∷◌, ◌∙◌, rules}
use Rattle.qtt_term.specs.Shift.{raised}
use Rattle.qtt_term.specs.Substitution.{ren}
use Rattle.qtt_term.specs.View.{term}
use Rattle.qtt_bidi.proofs.Scopes.{raised-one}
use Rattle.qtt_module.proofs.Grown.{raised-next}
use Rattle.qtt_module.proofs.contexts.shifted_names.Goals as goal

pub loop-term-preserved : goal.loop-term-preserved
loop-term-preserved c =
    let x = c.loop-term-item.result in
    let t : term c.in_ok-shift.field-0 ≡ ren (raised 0 1) (term x.0) = search rules in
    let u : term c.in_ok-shift-2.field-0 ≡ ren (raised 0 1) (term x.1) = search rules in
    let p : c.push.new.self.items ≡ c.loop-term.all.items ++ (c.in_ok-shift.field-0, c.in_ok-shift-2.field-0) ∷ [] =
    search rules in
    raised-next c.args.names.now c.loop-term.all.items c.push.new.self.items x _ _ c.loop-term.term-index
    c.loop-term-test.true c.loop-term-item.is p (t ∙ raised-one (term x.0)) (u ∙ raised-one (term x.1))
    c.loop-term.invariant
