-- The forms with rows of parts: their parts are copied.
use Rattle.std.proofs.Common.{◌≡◌, ◌∙◌, ap, sym, arith, map}
use Rattle.std.proofs.lemmas.Grind.{common_steps}
use Rattle.qtt_syntax.specs.View.{tree_of, argument_of, binder_of, statement_of}
use Rattle.qtt_syntax.proofs.Rows.{same_apply, same_lambda, same_do}
use Rattle.qtt_syntax.proofs.copying.+copied.Goals as goal

pub copied-returns-in_ok-arguments-in-Apply : goal.copied-returns-in_ok-arguments-in-Apply
copied-returns-in_ok-arguments-in-Apply t c =
    let function : tree_of c.in_ok-function-in-Apply.function.value ≡ tree_of c.in-Apply.function.value =
    grind (arith, common_steps) in
    let row : map argument_of c.in_ok-arguments-in-Apply.arguments.items ≡ map argument_of
    c.in-Apply.arguments.items = grind (arith, common_steps) in
    same_apply c.in_ok-function-in-Apply.function c.in-Apply.function c.in_ok-arguments-in-Apply.arguments
    c.in-Apply.arguments c.in-Apply.span function row
    ∙ sym (ap tree_of c.in-Apply.is)

pub copied-returns-in_ok-body-in-Lambda : goal.copied-returns-in_ok-body-in-Lambda
copied-returns-in_ok-body-in-Lambda t c =
    let row : map binder_of c.in_ok-binders-in-Lambda.binders.items ≡ map binder_of c.in-Lambda.binders.items =
    grind (arith, common_steps) in
    let body : tree_of c.in_ok-body-in-Lambda.body.value ≡ tree_of c.in-Lambda.body.value =
    grind (arith, common_steps) in
    same_lambda c.in_ok-binders-in-Lambda.binders c.in-Lambda.binders c.in_ok-body-in-Lambda.body c.in-Lambda.body
    c.in-Lambda.span row body
    ∙ sym (ap tree_of c.in-Lambda.is)

pub copied-returns-in_ok-copied_statements-in-Do : goal.copied-returns-in_ok-copied_statements-in-Do
copied-returns-in_ok-copied_statements-in-Do t c =
    let row : map statement_of c.in_ok-copied_statements-in-Do.field-0.items ≡ map statement_of
    c.in-Do.statements.items = grind (arith, common_steps) in
    same_do c.in_ok-copied_statements-in-Do.field-0 c.in-Do.statements c.in-Do.span row ∙ sym (ap tree_of c.in-Do.is)
