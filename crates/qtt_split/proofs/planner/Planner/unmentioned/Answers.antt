use Rattle.std.proofs.Common.{◌≡◌, None, Some, sym, subst}
use Rattle.qtt_term.specs.Entries.{entries, env}
use Rattle.qtt_term.specs.View.{term}
use Rattle.qtt_unify.specs.View.{all_terms}
use Rattle.qtt_split.specs.Answers.{Refuses}
use Rattle.qtt_split.specs.Calls.{test_of}
use Rattle.qtt_split.specs.Split.{first_mentioning, nothing_there}
use Rattle.qtt_split.specs.Tests.{at}
use Rattle.qtt_split.proofs.Leaves.{one-mentions, none-mentions}
use Rattle.qtt_split.proofs.planner.Planner.unmentioned.Goals as goal

pub returns-in_ok-right-in-Some : goal.returns-in_ok-right-in-Some
returns-in_ok-right-in-Some g c =
    let E = env (entries c.args.self.now.unifier.globals.now) in
    let n = c.args.self.now.unifier.budget in
    let p = at c.args.span (test_of c.args.test) in
    let o = first_mentioning c.args.variables.now (all_terms c.args.terms.now) in
    let some : o ≡ Some (term c.in-Some.t.now) = sym (rw c.in-Some.is at c.in_ok-t.ensures) in
    subst (λ e. Refuses E n (nothing_there p c.args.depth o) e) (sym c.refused.ensures)
    (one-mentions E n p c.args.depth o (term c.in-Some.t.now) (term c.in_ok-left-in-Some.left)
    (term c.in_ok-right-in-Some.right) some c.in_ok-left-in-Some.ensures c.in_ok-right-in-Some.ensures)

pub returns-in-None : goal.returns-in-None
returns-in-None g c =
    let none : first_mentioning c.args.variables.now (all_terms c.args.terms.now) ≡ None =
    sym (rw c.in-None.is at c.in_ok-t.ensures) in
    none-mentions (env (entries c.args.self.now.unifier.globals.now)) c.args.self.now.unifier.budget
    (at c.args.span (test_of c.args.test)) c.args.depth
    (first_mentioning c.args.variables.now (all_terms c.args.terms.now)) none
