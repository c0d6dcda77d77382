-- The forms with rows of parts: their parts are read.
use Rattle.std.proofs.Common.{◌≡◌, ◌∙◌, ap, arith, map}
use Rattle.std.proofs.lemmas.Grind.{common_steps}
use Rattle.qtt_syntax.specs.Tree.{arguments, binders, statements}
use Rattle.qtt_syntax.specs.View.{tree_of, argument_of, binder_of, statement_of}
use Rattle.qtt_implicit.specs.Nodes.{node_tree, argument_row, binder_row, statement_row}
use Rattle.qtt_implicit.proofs.ReadParts.{read_apply, read_lambda, read_do}
use Rattle.qtt_implicit.proofs.filling.reading.+read.Goals as goal

pub read-returns-in_ok-placed-in-Apply : goal.read-returns-in_ok-placed-in-Apply
read-returns-in_ok-placed-in-Apply t c =
    let function : node_tree c.in_ok-read-in-Apply.field-0.now ≡ tree_of c.in-Apply.function.value =
    grind (arith, common_steps) in
    let row : argument_row c.in_ok-read_arguments-in-Apply.field-0.now ≡ arguments
    (map argument_of c.in-Apply.arguments.items) = grind (arith, common_steps) in
    ap node_tree c.in_ok-placed-in-Apply.ensures
    ∙ read_apply c.args.source.now c.in-Apply.function c.in-Apply.arguments c.in-Apply.span
    (node_tree c.in_ok-read-in-Apply.field-0.now) (argument_row c.in_ok-read_arguments-in-Apply.field-0.now)
    c.in-Apply.is function row

pub read-returns-in_ok-placed-in-Lambda : goal.read-returns-in_ok-placed-in-Lambda
read-returns-in_ok-placed-in-Lambda t c =
    let row : binder_row c.in_ok-read_binders-in-Lambda.field-0.now ≡ binders
    (map binder_of c.in-Lambda.binders.items) = grind (arith, common_steps) in
    let body : node_tree c.in_ok-read-in-Lambda.field-0.now ≡ tree_of c.in-Lambda.body.value =
    grind (arith, common_steps) in
    ap node_tree c.in_ok-placed-in-Lambda.ensures
    ∙ read_lambda c.args.source.now c.in-Lambda.binders c.in-Lambda.body c.in-Lambda.span
    (binder_row c.in_ok-read_binders-in-Lambda.field-0.now) (node_tree c.in_ok-read-in-Lambda.field-0.now)
    c.in-Lambda.is row body

pub read-returns-in_ok-placed-in-Do : goal.read-returns-in_ok-placed-in-Do
read-returns-in_ok-placed-in-Do t c =
    let row : statement_row c.in_ok-read_statements-in-Do.field-0.now ≡ statements
    (map statement_of c.in-Do.statements.items) = grind (arith, common_steps) in
    ap node_tree c.in_ok-placed-in-Do.ensures
    ∙ read_do c.args.source.now c.in-Do.statements c.in-Do.span
    (statement_row c.in_ok-read_statements-in-Do.field-0.now) c.in-Do.is row
