use Rattle.std.proofs.Common.{subst}
use Rattle.qtt_term.specs.Entries.{entries, env}
use Rattle.qtt_split.specs.Answers.{Reaches, Refuses}
use Rattle.qtt_split.proofs.Within.{passed}
use Rattle.qtt_split.proofs.Walked.{filled_patterns, filled_clauses, clauses-walk, one-walked, walk-stopped, all-walked}
use Rattle.qtt_split.proofs.planner.Planner.clauses_full.Goals as goal

pub returns-in_err-patterns_full : goal.returns-in_err-patterns_full
returns-in_err-patterns_full g c =
    let K = entries c.args.self.now.unifier.globals.now in
    let E = env K in
    let n = c.args.self.now.unifier.budget in
    let x = c.clause-item.result in
    let e = c.in_err-patterns_full.field-0.0 in
    passed E n _ _ c.from_residual.result e c.from_residual.ensures.1
    (walk-stopped E n (filled_clauses K) (λ c. filled_patterns K c.patterns.items) c.args.self.now.clauses.now
    c.loop-clause.clause-index x e (clauses-walk K) c.loop-clause-test.true c.clause-item.is
    (subst (λ ps. Refuses E n (filled_patterns K ps) e) c.deref.ensures.value c.in_err-patterns_full.ensures)
    c.loop-clause.invariant)

pub loop-clause-preserved : goal.loop-clause-preserved
loop-clause-preserved g c =
    let K = entries c.args.self.now.unifier.globals.now in
    let E = env K in
    let n = c.args.self.now.unifier.budget in
    let x = c.clause-item.result in
    one-walked E n (filled_clauses K) (λ c. filled_patterns K c.patterns.items) c.args.self.now.clauses.now
    c.loop-clause.clause-index x (clauses-walk K) c.loop-clause-test.true c.clause-item.is
    (subst (λ ps. Reaches E n (filled_patterns K ps) tt) c.deref.ensures.value c.in_ok-patterns_full.ensures)
    c.loop-clause.invariant

pub returns : goal.returns
returns g c =
    let K = entries c.args.self.now.unifier.globals.now in
    all-walked (env K) c.args.self.now.unifier.budget (filled_clauses K) (λ c. filled_patterns K c.patterns.items)
    c.args.self.now.clauses.now c.loop-clause.clause-index (clauses-walk K) c.loop-clause-test.false
    c.loop-clause.invariant
