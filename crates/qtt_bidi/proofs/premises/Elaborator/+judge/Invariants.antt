-- How much is left of what is judged.
use Rattle.std.proofs.Common.{◌+◌}
use Rattle.qtt_syntax.specs.View.{tree_of, argument_of, binder_of, statement_of, written_type}
use Rattle.qtt_bidi.specs.Parts.{argument_trees, binder_trees, statement_trees}
use Rattle.qtt_bidi.proofs.Weights.{weight, annotation_weight, argument_weight, arguments_weight, binder_weight, binders_weight, statement_weight, statements_weight}
use Rattle.qtt_bidi.proofs.premises.Elaborator.+judge.Given as goal

abbrev pub decreases-judge : goal.decreases-judge
decreases-judge g l = weight (tree_of l.e.now)

abbrev pub decreases-name_row : goal.decreases-name_row
decreases-name_row g l = 9

abbrev pub decreases-global_row : goal.decreases-global_row
decreases-global_row g l = arguments_weight (argument_trees l.arguments.now) + 8

abbrev pub decreases-listed : goal.decreases-listed
decreases-listed g l = arguments_weight (argument_trees l.arguments.now) + 7

abbrev pub decreases-constructor : goal.decreases-constructor
decreases-constructor g l = arguments_weight (argument_trees l.arguments.now) + 7

abbrev pub decreases-pure : goal.decreases-pure
decreases-pure g l = arguments_weight (argument_trees l.arguments.now) + 7

abbrev pub decreases-found_constructor : goal.decreases-found_constructor
decreases-found_constructor g l = arguments_weight (argument_trees l.arguments.now) + 6

abbrev pub decreases-checked_constructor : goal.decreases-checked_constructor
decreases-checked_constructor g l = arguments_weight (argument_trees l.arguments.now) + 6

abbrev pub decreases-arguments : goal.decreases-arguments
decreases-arguments g l = arguments_weight (argument_trees l.arguments.now) + 1

abbrev pub decreases-argument : goal.decreases-argument
decreases-argument g l = argument_weight (argument_of l.argument.now) + 1

abbrev pub decreases-apply_row : goal.decreases-apply_row
decreases-apply_row g l = weight (tree_of l.function.now) + arguments_weight (argument_trees l.arguments.now) + 9

abbrev pub decreases-application : goal.decreases-application
decreases-application g l = weight (tree_of l.function.now) + arguments_weight (argument_trees l.arguments.now) + 8

abbrev pub decreases-applied : goal.decreases-applied
decreases-applied g l = arguments_weight (argument_trees l.arguments.now) + 1

abbrev pub decreases-is_type : goal.decreases-is_type
decreases-is_type g l = weight (tree_of l.e.now) + 1

abbrev pub decreases-pi_row : goal.decreases-pi_row
decreases-pi_row g l = weight (tree_of l.domain.now) + weight (tree_of l.codomain.now) + 4

abbrev pub decreases-ascribed : goal.decreases-ascribed
decreases-ascribed g l = weight (tree_of l.ty.now) + weight (tree_of l.value.now) + 2

abbrev pub decreases-ascription_row : goal.decreases-ascription_row
decreases-ascription_row g l = weight (tree_of l.ty.now) + weight (tree_of l.value.now) + 4

abbrev pub decreases-lambda_row : goal.decreases-lambda_row
decreases-lambda_row g l = binders_weight (binder_trees l.binders.now) + weight (tree_of l.body.now) + 5

abbrev pub decreases-found_function : goal.decreases-found_function
decreases-found_function g l = binders_weight (binder_trees l.binders.now) + weight (tree_of l.body.now) + 1

abbrev pub decreases-found_binder : goal.decreases-found_binder
decreases-found_binder g l =
    binder_weight (binder_of l.binder.now) + binders_weight (binder_trees l.rest.now)
    + weight (tree_of l.body.now) + 2

abbrev pub decreases-checked_function : goal.decreases-checked_function
decreases-checked_function g l = binders_weight (binder_trees l.binders.now) + weight (tree_of l.body.now) + 1

abbrev pub decreases-checked_binder : goal.decreases-checked_binder
decreases-checked_binder g l =
    binder_weight (binder_of l.binder.now) + binders_weight (binder_trees l.rest.now)
    + weight (tree_of l.body.now) + 2

abbrev pub decreases-written_domain : goal.decreases-written_domain
decreases-written_domain g l = binder_weight (binder_of l.binder.now) + 1

abbrev pub decreases-valued : goal.decreases-valued
decreases-valued g l = annotation_weight (written_type l.ty.now) + weight (tree_of l.value.now) + 2

abbrev pub decreases-let_row : goal.decreases-let_row
decreases-let_row g l =
    annotation_weight (written_type l.ty.now) + weight (tree_of l.value.now) + weight (tree_of l.body.now) + 5

abbrev pub decreases-statements : goal.decreases-statements
decreases-statements g l = statements_weight (statement_trees l.statements.now) + 5

abbrev pub decreases-last : goal.decreases-last
decreases-last g l = statement_weight (statement_of l.statement.now) + 1

abbrev pub decreases-statement : goal.decreases-statement
decreases-statement g l =
    statement_weight (statement_of l.statement.now) + statements_weight (statement_trees l.rest.now) + 5

abbrev pub decreases-let_statement : goal.decreases-let_statement
decreases-let_statement g l =
    annotation_weight (written_type l.ty.now)
    + weight (tree_of l.value.now) + statements_weight (statement_trees l.rest.now) + 9

abbrev pub decreases-bind_row : goal.decreases-bind_row
decreases-bind_row g l = weight (tree_of l.value.now) + statements_weight (statement_trees l.rest.now) + 9

abbrev pub decreases-bound : goal.decreases-bound
decreases-bound g l = statements_weight (statement_trees l.rest.now) + 6
