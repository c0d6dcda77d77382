use Rattle.std.proofs.Common.{◌≡◌, ◌++◌, [], ◌∷◌, rules}
use Rattle.qtt_term.specs.Substitution.{sub, lifts}
use Rattle.qtt_term.specs.View.{term}
use Rattle.qtt_term.specs.Telescopes.{filled}
use Rattle.qtt_term.proofs.Binders.{binds-step}
use Rattle.qtt_term.proofs.telescopes.filled_binders.Goals as goal

pub loop-depth-preserved : goal.loop-depth-preserved
loop-depth-preserved c =
    let x = c.index-binders-depth.result in
    let e : c.push.new.self.items ≡ c.loop-depth.all.items ++ (c.mul.result, c.in_ok-fill.field-0) ∷ [] =
    search rules in
    let s : term c.in_ok-fill.field-0 ≡ sub (lifts c.loop-depth.depth (filled c.args.values.now)) (term x.1) =
    search rules in
    binds-step c.loop-depth.all.items c.push.new.self.items (filled c.args.values.now) c.args.by c.mul.result
    c.args.binders.now x c.in_ok-fill.field-0 c.loop-depth.depth
    c.loop-depth-test.true c.index-binders-depth.is e c.mul.ensures s c.loop-depth.invariant
