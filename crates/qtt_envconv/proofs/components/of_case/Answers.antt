use Rattle.std.proofs.Common.{arith}
use Rattle.std.proofs.lemmas.Grind.{common_steps}
use Rattle.qtt_term.specs.declared.term.Case.{out-Case}
use Rattle.qtt_term.specs.declared.term.Term.{the_lemmas}
use Rattle.qtt_term.specs.View.{term, branches}
use Rattle.qtt_envconv.proofs.ComponentLists.{case-list}
use Rattle.qtt_envconv.proofs.components.of_case.Goals as goal

pub returns : goal.returns
returns c =
    let a = out-Case c.args.case.now in
    let listed = case-list a.mult a.family a.params.items a.indices (term a.motive) (branches a.branches.items)
    (term a.scrutinee) in
    grind (arith, common_steps, the_lemmas, listed)
