-- The forms with rows of parts: their parts are written.
use Rattle.std.proofs.Common.{◌≡◌, ◌∙◌, ap, sym, arith, map}
use Rattle.std.proofs.lemmas.Grind.{common_steps}
use Rattle.qtt_syntax.specs.View.{tree_of, argument_of, binder_of, statement_of}
use Rattle.qtt_implicit.specs.Nodes.{node_tree, argument_row, binder_row, statement_row}
use Rattle.qtt_implicit.specs.Parts.{argument_list, binder_list, statement_list}
use Rattle.qtt_implicit.proofs.WrittenParts.{written_apply, written_lambda, written_do}
use Rattle.qtt_implicit.proofs.filling.writing.+written.Goals as goal

pub written-returns-in_ok-row-in-Apply : goal.written-returns-in_ok-row-in-Apply
written-returns-in_ok-row-in-Apply t c =
    let function : tree_of c.in_ok-function-in-Apply.function.value ≡ node_tree c.in-Apply.function.now =
    grind (arith, common_steps) in
    let row : map argument_of c.in_ok-row-in-Apply.row.items ≡ argument_list (argument_row c.in-Apply.arguments.now) =
    grind (arith, common_steps) in
    written_apply c.in_ok-function-in-Apply.function c.in_ok-row-in-Apply.row c.in-Apply.span
    (node_tree c.in-Apply.function.now) (argument_row c.in-Apply.arguments.now) function row
    ∙ sym (ap node_tree c.in-Apply.is)

pub written-returns-in_ok-body-in-Lambda : goal.written-returns-in_ok-body-in-Lambda
written-returns-in_ok-body-in-Lambda t c =
    let row : map binder_of c.in_ok-row-in-Lambda.row.items ≡ binder_list (binder_row c.in-Lambda.binders.now) =
    grind (arith, common_steps) in
    let body : tree_of c.in_ok-body-in-Lambda.body.value ≡ node_tree c.in-Lambda.body.now =
    grind (arith, common_steps) in
    written_lambda c.in_ok-row-in-Lambda.row c.in_ok-body-in-Lambda.body c.in-Lambda.span
    (binder_row c.in-Lambda.binders.now) (node_tree c.in-Lambda.body.now) row body
    ∙ sym (ap node_tree c.in-Lambda.is)

pub written-returns-in_ok-row-in-Do : goal.written-returns-in_ok-row-in-Do
written-returns-in_ok-row-in-Do t c =
    let row : map statement_of c.in_ok-row-in-Do.row.items ≡ statement_list
    (statement_row c.in-Do.statements.now) = grind (arith, common_steps) in
    written_do c.in_ok-row-in-Do.row c.in-Do.span (statement_row c.in-Do.statements.now) row
    ∙ sym (ap node_tree c.in-Do.is)
