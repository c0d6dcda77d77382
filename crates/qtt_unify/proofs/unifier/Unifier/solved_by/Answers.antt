use Rattle.std.proofs.Common.{option_map, map, sym, subst}
use Rattle.qtt_term.specs.Globals.{env}
use Rattle.qtt_term.specs.Ask.{Ask}
use Rattle.qtt_term.specs.View.{term}
use Rattle.qtt_unify.specs.Deletion.{deletion}
use Rattle.qtt_unify.specs.Problems.{Solved, or_deletion, solved_by}
use Rattle.qtt_unify.specs.View.{scrutinee, solution, verdict, deletion as deletion_of, Reaches, Refuses}
use Rattle.qtt_unify.proofs.Within.{on, on_done, here, passed}
use Rattle.qtt_unify.proofs.unifier.Unifier.solved_by.Goals as goal

pub returns-in_err-deletion-in-Stuck : goal.returns-in_err-deletion-in-Stuck
returns-in_err-deletion-in-Stuck g c =
    let E = env c.args.self.now.globals.now in
    let n = c.args.self.now.budget in
    let f = c.args.family in
    let S = scrutinee c.args.scrutinee.now in
    let e = c.in_err-deletion-in-Stuck.field-0.0 in
    passed _ _ _ _ c.from_residual.result e c.from_residual.ensures.1
    (subst (λ v. Refuses E n (solved_by tt f S (verdict v)) e) (sym c.in-Stuck.is)
    (here E n (deletion tt f S) (λ d. Ask.done (or_deletion (term c.in-Stuck.index) (term c.in-Stuck.target) d)) e
    c.in_err-deletion-in-Stuck.ensures))

pub returns-in-Solved : goal.returns-in-Solved
returns-in-Solved g c =
    let E = env c.args.self.now.globals.now in
    let S = scrutinee c.args.scrutinee.now in
    subst (λ v. Reaches E c.args.self.now.budget (solved_by tt c.args.family S (verdict v))
    (Solved.solution_is (map solution c.in-Solved.solutions.items))) (sym c.in-Solved.is) on_done

pub returns-in-Clash : goal.returns-in-Clash
returns-in-Clash g c =
    let E = env c.args.self.now.globals.now in
    let S = scrutinee c.args.scrutinee.now in
    subst (λ v. Reaches E c.args.self.now.budget (solved_by tt c.args.family S (verdict v))
    Solved.clash_is) (sym c.in-Clash.is) on_done

pub returns-in-Some : goal.returns-in-Some
returns-in-Some g c =
    let E = env c.args.self.now.globals.now in
    let n = c.args.self.now.budget in
    let f = c.args.family in
    let S = scrutinee c.args.scrutinee.now in
    let there : Reaches E n (deletion tt f S) (option_map deletion_of c.in_ok-deletion-in-Stuck.field-0) =
    c.in_ok-deletion-in-Stuck.ensures in
    subst (λ v. Reaches E n (solved_by tt f S (verdict v)) Solved.deletion_is) (sym c.in-Stuck.is)
    (on (λ d. Ask.done (or_deletion (term c.in-Stuck.index) (term c.in-Stuck.target) d))
    (subst (λ o. Reaches E n (deletion tt f S) (option_map deletion_of o)) c.in-Some.is there) on_done)

pub returns-in-None : goal.returns-in-None
returns-in-None g c =
    let E = env c.args.self.now.globals.now in
    let n = c.args.self.now.budget in
    let f = c.args.family in
    let S = scrutinee c.args.scrutinee.now in
    let there : Reaches E n (deletion tt f S) (option_map deletion_of c.in_ok-deletion-in-Stuck.field-0) =
    c.in_ok-deletion-in-Stuck.ensures in
    let stuck = Solved.stuck_is (term c.in-Stuck.index) (term c.in-Stuck.target) in
    subst (λ v. Reaches E n (solved_by tt f S (verdict v)) stuck) (sym c.in-Stuck.is)
    (on (λ d. Ask.done (or_deletion (term c.in-Stuck.index) (term c.in-Stuck.target) d))
    (subst (λ o. Reaches E n (deletion tt f S) (option_map deletion_of o)) c.in-None.is there) on_done)
