use Rattle.std.proofs.Common.{sym, subst}
use Rattle.qtt_term.specs.Entries.{entries, env}
use Rattle.qtt_unify.specs.Equations.{constructor_verdict}
use Rattle.qtt_unify.specs.View.{all_terms, scrutinee, verdict}
use Rattle.qtt_split.specs.declared.planner.Test.TheVariants.{Equations}
use Rattle.qtt_split.specs.Answers.{Refuses}
use Rattle.qtt_split.specs.Tests.{Test, at}
use Rattle.qtt_split.proofs.Placed.{verdict-alike, reaches-placed, refuses-placed}
use Rattle.qtt_split.proofs.planner.Planner.verdict.Goals as goal

pub returns-in-Ok : goal.returns-in-Ok
returns-in-Ok g c =
    let E = env (entries c.args.self.now.unifier.globals.now) in
    let n = c.args.self.now.unifier.budget in
    let p = at c.args.span Test.equations in
    let S = scrutinee c.args.scrutinee.now in
    let us = all_terms c.args.results.now in
    reaches-placed E n p (constructor_verdict E tt S c.args.fields us) (constructor_verdict E p S c.args.fields us)
    (verdict c.in-Ok.verdict) (verdict-alike E n p S c.args.fields us) c.in-Ok.ensures

pub returns-in-Err : goal.returns-in-Err
returns-in-Err g c =
    let E = env (entries c.args.self.now.unifier.globals.now) in
    let n = c.args.self.now.unifier.budget in
    let p = at c.args.span Test.equations in
    let S = scrutinee c.args.scrutinee.now in
    let us = all_terms c.args.results.now in
    subst (λ e. Refuses E n (constructor_verdict E p S c.args.fields us) e) (sym c.told.ensures)
    (refuses-placed E n c.args.span Equations (constructor_verdict E tt S c.args.fields us)
    (constructor_verdict E p S c.args.fields us) c.in-Err.error (verdict-alike E n p S c.args.fields us)
    c.in-Err.ensures)
