use Rattle.std.proofs.Common.{◌≡◌, ◌+◌, ◌++◌, [], ◌∷◌, sym, subst, arith}
use Rattle.std.proofs.lemmas.Grind.{common_steps}
use Rattle.qtt_term.specs.Globals.{env}
use Rattle.qtt_unify.proofs.Continuing.{ReadSoFar, one-read, read-stopped, all-read}
use Rattle.qtt_unify.proofs.Within.{passed}
use Rattle.qtt_unify.proofs.unifier.Unifier.readings.Goals as goal

pub returns-in_err-reading : goal.returns-in_err-reading
returns-in_err-reading g c =
    passed _ _ _ _ c.from_residual-in_err-reading.result c.in_err-reading.field-0.0
    c.from_residual-in_err-reading.ensures.1
    (read-stopped c.args.indices.now c.loop-index.index-index c.loop-index.targets.items c.index-item.result
    c.in_err-reading.field-0.0 c.loop-index-test.true c.index-item.is c.in_err-reading.ensures c.loop-index.invariant)

pub loop-index-preserved : goal.loop-index-preserved
loop-index-preserved g c =
    let now : c.push.new.self.items ≡ c.loop-index.targets.items ++ c.in_ok-reading.field-0 ∷ [] =
    grind (arith, common_steps) in
    subst (λ v. ReadSoFar (env c.args.self.now.globals.now) c.args.self.now.budget c.args.depth c.args.indices.now
    (c.loop-index.index-index + 1) v) (sym now)
    (one-read c.args.indices.now c.loop-index.index-index c.loop-index.targets.items c.index-item.result
    c.in_ok-reading.field-0 c.loop-index-test.true c.index-item.is c.in_ok-reading.ensures c.loop-index.invariant)

pub returns : goal.returns
returns g c =
    all-read c.args.indices.now c.loop-index.index-index c.loop-index.targets.items c.loop-index-test.false
    c.loop-index.invariant
