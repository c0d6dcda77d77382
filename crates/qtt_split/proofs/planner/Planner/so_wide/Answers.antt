use Rattle.std.proofs.Common.{◌≡◌, length, map, eqb, subst, arith}
use Rattle.std.proofs.lemmas.Grind.{common_steps}
use Rattle.std.proofs.lemmas.List.{length-map}
use Rattle.qtt_syntax.specs.View.{shape_of}
use Rattle.qtt_term.specs.Entries.{entries, env}
use Rattle.qtt_rules.specs.Refusal.{Cause}
use Rattle.qtt_rules.specs.Asks.{need}
use Rattle.qtt_split.specs.Answers.{Reaches, Refuses}
use Rattle.qtt_split.specs.Tests.{Test, at}
use Rattle.qtt_split.proofs.Within.{passed}
use Rattle.qtt_split.proofs.Walked.{wide, wide_one, wide-walk, one-walked, walk-stopped, all-walked}
use Rattle.qtt_split.proofs.planner.Planner.so_wide.Goals as goal

pub returns-in_err-counted : goal.returns-in_err-counted
returns-in_err-counted g c =
    let E = env (entries c.args.self.now.unifier.globals.now) in
    let n = c.args.self.now.unifier.budget in
    let k = c.args.width in
    let x = c.clause-item.result in
    let e = c.in_err-counted.field-0.0 in
    let count : c.len.result ≡ length (map shape_of x.patterns.items) =
    grind (arith, common_steps, length-map x.patterns.items shape_of, c.len.ensures) in
    passed E n _ _ c.from_residual.result e c.from_residual.ensures.1
    (walk-stopped E n (wide k) (wide_one k) c.args.self.now.clauses.now c.loop-clause.clause-index x e (wide-walk k)
    c.loop-clause-test.true c.clause-item.is
    (subst (λ m. Refuses E n (need (eqb m k) (Cause.wrong_arity k m) (at x.span Test.one_width)) e) count
    (c.in_err-counted.ensures E n)) c.loop-clause.invariant)

pub loop-clause-preserved : goal.loop-clause-preserved
loop-clause-preserved g c =
    let E = env (entries c.args.self.now.unifier.globals.now) in
    let n = c.args.self.now.unifier.budget in
    let k = c.args.width in
    let x = c.clause-item.result in
    let count : c.len.result ≡ length (map shape_of x.patterns.items) =
    grind (arith, common_steps, length-map x.patterns.items shape_of, c.len.ensures) in
    one-walked E n (wide k) (wide_one k) c.args.self.now.clauses.now c.loop-clause.clause-index x (wide-walk k)
    c.loop-clause-test.true c.clause-item.is
    (subst (λ m. Reaches E n (need (eqb m k) (Cause.wrong_arity k m) (at x.span Test.one_width)) tt) count
    (c.in_ok-counted.ensures E n)) c.loop-clause.invariant

pub returns : goal.returns
returns g c =
    let E = env (entries c.args.self.now.unifier.globals.now) in
    all-walked E c.args.self.now.unifier.budget (wide c.args.width) (wide_one c.args.width) c.args.self.now.clauses.now
    c.loop-clause.clause-index (wide-walk c.args.width) c.loop-clause-test.false c.loop-clause.invariant
