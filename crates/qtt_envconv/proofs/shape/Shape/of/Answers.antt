use Rattle.std.proofs.Common.{arith}
use Rattle.std.proofs.lemmas.Grind.{common_steps}
use Rattle.qtt_term.specs.declared.term.Case.{out-Case}
use Rattle.qtt_term.specs.declared.term.Term.{the_lemmas}
use Rattle.qtt_term.specs.View.{term, branches}
use Rattle.qtt_envconv.proofs.ComponentLists.{case-length, front-length}
use Rattle.qtt_envconv.proofs.shape.Shape.of.Goals as goal

pub returns-in-Con-clause-whole : goal.returns-in-Con-clause-whole
returns-in-Con-clause-whole c =
    let long = front-length c.in-Con.params.items c.in-Con.field-2.items in
    grind (arith, common_steps, the_lemmas, long)

pub returns-in-Case-clause-shaped : goal.returns-in-Case-clause-shaped
returns-in-Case-clause-shaped c = grind (arith, common_steps, the_lemmas)

pub returns-in-Case-clause-whole : goal.returns-in-Case-clause-whole
returns-in-Case-clause-whole c =
    let a = out-Case c.in-Case.case.value in
    let long = case-length a.mult a.family a.params.items a.indices (term a.motive) (branches a.branches.items)
    (term a.scrutinee) in
    grind (arith, common_steps, the_lemmas, long)

pub returns-in-Act-clause-shaped : goal.returns-in-Act-clause-shaped
returns-in-Act-clause-shaped c = grind (arith, common_steps, the_lemmas)

pub returns-in-Act-clause-whole : goal.returns-in-Act-clause-whole
returns-in-Act-clause-whole c =
    let long = front-length c.in-Act.types.items c.in-Act.field-2.items in
    grind (arith, common_steps, the_lemmas, long)
