use Rattle.std.proofs.Common.{option_map, sym, subst}
use Rattle.qtt_term.specs.Entries.{entries, env}
use Rattle.qtt_unify.specs.Deletion.{deletion}
use Rattle.qtt_unify.specs.View.{scrutinee, deletion as deletion_of}
use Rattle.qtt_split.specs.declared.planner.Test.TheVariants.{Deletion}
use Rattle.qtt_split.specs.Answers.{Refuses}
use Rattle.qtt_split.specs.Tests.{Test, at}
use Rattle.qtt_split.proofs.Placed.{deletion-alike, reaches-placed, refuses-placed}
use Rattle.qtt_split.proofs.planner.Planner.deletion.Goals as goal

pub returns-in-Ok : goal.returns-in-Ok
returns-in-Ok g c =
    let E = env (entries c.args.self.now.unifier.globals.now) in
    let n = c.args.self.now.unifier.budget in
    let p = at c.args.span Test.deletion in
    let S = scrutinee c.args.scrutinee.now in
    reaches-placed E n p (deletion tt c.args.family S) (deletion p c.args.family S)
    (option_map deletion_of c.in-Ok.found) (deletion-alike E n p c.args.family S) c.in-Ok.ensures

pub returns-in-Err : goal.returns-in-Err
returns-in-Err g c =
    let E = env (entries c.args.self.now.unifier.globals.now) in
    let n = c.args.self.now.unifier.budget in
    let p = at c.args.span Test.deletion in
    let S = scrutinee c.args.scrutinee.now in
    subst (λ e. Refuses E n (deletion p c.args.family S) e) (sym c.told.ensures)
    (refuses-placed E n c.args.span Deletion (deletion tt c.args.family S) (deletion p c.args.family S)
    c.in-Err.error (deletion-alike E n p c.args.family S) c.in-Err.ensures)
