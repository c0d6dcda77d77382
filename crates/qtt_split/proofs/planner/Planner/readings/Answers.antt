use Rattle.std.proofs.Common.{sym, subst}
use Rattle.qtt_term.specs.Entries.{entries, env}
use Rattle.qtt_unify.specs.Targets.{readings}
use Rattle.qtt_unify.specs.View.{all_terms}
use Rattle.qtt_split.specs.Answers.{Refuses}
use Rattle.qtt_split.specs.Calls.{test_of}
use Rattle.qtt_split.specs.Tests.{at}
use Rattle.qtt_split.proofs.Placed.{readings-alike, reaches-placed, refuses-placed}
use Rattle.qtt_split.proofs.planner.Planner.readings.Goals as goal

pub returns-in-Ok : goal.returns-in-Ok
returns-in-Ok g c =
    let E = env (entries c.args.self.now.unifier.globals.now) in
    let n = c.args.self.now.unifier.budget in
    let p = at c.args.span (test_of c.args.test) in
    let ts = all_terms c.args.indices.now in
    reaches-placed E n p (readings tt c.args.depth ts) (readings p c.args.depth ts)
    (all_terms c.in-Ok.targets.items) (readings-alike E n p c.args.depth ts) c.in-Ok.ensures

pub returns-in-Err : goal.returns-in-Err
returns-in-Err g c =
    let E = env (entries c.args.self.now.unifier.globals.now) in
    let n = c.args.self.now.unifier.budget in
    let p = at c.args.span (test_of c.args.test) in
    let ts = all_terms c.args.indices.now in
    subst (λ e. Refuses E n (readings p c.args.depth ts) e) (sym c.told.ensures)
    (refuses-placed E n c.args.span c.args.test (readings tt c.args.depth ts) (readings p c.args.depth ts)
    c.in-Err.error (readings-alike E n p c.args.depth ts) c.in-Err.ensures)
