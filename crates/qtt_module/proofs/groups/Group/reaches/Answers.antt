use Rattle.std.proofs.Common.{◌∙◌, map, sym, subst}
use Rattle.qtt_term.specs.Entries.{env}
use Rattle.qtt_rules.specs.Refusal.{Cause}
use Rattle.qtt_bidi.specs.Answers.{Fails}
use Rattle.qtt_split.specs.Tests.{Test, at}
use Rattle.qtt_module.specs.GroupCalls.{globals_of, defined_of, leaf_at}
use Rattle.qtt_module.proofs.Reaching.{from_clause, one-reached, unreached, all-reached}
use Rattle.qtt_module.proofs.groups.Group.reaches.Goals as goal

pub returns-then-not-has_leaf : goal.returns-then-not-has_leaf
returns-then-not-has_leaf g c =
    let E = env (globals_of c.args.self.now) in
    let n = c.args.self.now.elaborator.budget in
    let D = defined_of c.args.self.now in
    let ls = map leaf_at c.args.leaves.now in
    let cs = c.args.self.now.clauses.now in
    let x = c.clause-item.result in
    subst (λ y. Fails E n (from_clause E n D ls 0 cs) (Cause.unreachable y) (at x.span Test.reached))
    (sym c.in_ok-definition.ensures)
    (unreached E n D ls cs c.loop-number.number x c.loop-number-test.true c.clause-item.is c.loop-number.invariant
    (sym c.has_leaf.ensures ∙ c.if-not-has_leaf.true))

pub loop-number-preserved : goal.loop-number-preserved
loop-number-preserved g c =
    one-reached (env (globals_of c.args.self.now)) c.args.self.now.elaborator.budget (defined_of c.args.self.now)
    (map leaf_at c.args.leaves.now) c.args.self.now.clauses.now c.loop-number.number c.clause-item.result
    c.loop-number-test.true c.clause-item.is c.loop-number.invariant
    (sym c.has_leaf.ensures ∙ c.if-not-has_leaf.false)

pub returns : goal.returns
returns g c =
    all-reached (env (globals_of c.args.self.now)) c.args.self.now.elaborator.budget (defined_of c.args.self.now)
    (map leaf_at c.args.leaves.now) c.args.self.now.clauses.now c.loop-number.number c.loop-number-test.false
    c.loop-number.invariant
