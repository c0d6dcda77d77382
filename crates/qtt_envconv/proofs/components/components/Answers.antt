use Rattle.std.proofs.Common.{arith}
use Rattle.std.proofs.lemmas.Grind.{common_steps}
use Rattle.qtt_term.specs.declared.term.Term.{the_lemmas}
use Rattle.qtt_envconv.proofs.ComponentLists.{front-list}
use Rattle.qtt_envconv.proofs.components.components.Goals as goal

pub returns-in_ok-push_all-in-Con : goal.returns-in_ok-push_all-in-Con
returns-in_ok-push_all-in-Con c =
    let listed = front-list c.in-Con.params.items c.in-Con.fields.items in
    grind (arith, common_steps, the_lemmas, listed)

pub returns-in_ok-push_all-in-Act : goal.returns-in_ok-push_all-in-Act
returns-in_ok-push_all-in-Act c =
    let listed = front-list c.in-Act.types.items c.in-Act.arguments.items in
    grind (arith, common_steps, the_lemmas, listed)
