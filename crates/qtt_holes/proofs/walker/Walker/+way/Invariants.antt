-- How much is left of what is walked.
use Rattle.std.proofs.Common.{◌+◌}
use Rattle.qtt_syntax.specs.View.{tree_of, binder_of, statement_of, written_type}
use Rattle.qtt_bidi.specs.Parts.{binder_trees, statement_trees}
use Rattle.qtt_bidi.proofs.Weights.{weight, annotation_weight, binder_weight, binders_weight, statement_weight, statements_weight}
use Rattle.qtt_holes.proofs.walker.Walker.+way.Given as goal

abbrev pub decreases-way : goal.decreases-way
decreases-way g l = weight (tree_of l.e.now)

abbrev pub decreases-function : goal.decreases-function
decreases-function g l = binders_weight (binder_trees l.binders.now) + weight (tree_of l.body.now) + 1

abbrev pub decreases-binder : goal.decreases-binder
decreases-binder g l =
    binder_weight (binder_of l.binder.now) + binders_weight (binder_trees l.rest.now)
    + weight (tree_of l.body.now) + 2

abbrev pub decreases-letting : goal.decreases-letting
decreases-letting g l =
    annotation_weight (written_type l.written.now) + weight (tree_of l.value.now) + weight (tree_of l.body.now) + 5

abbrev pub decreases-statements : goal.decreases-statements
decreases-statements g l = statements_weight (statement_trees l.statements.now) + 5

abbrev pub decreases-last : goal.decreases-last
decreases-last g l = statement_weight (statement_of l.statement.now) + 1

abbrev pub decreases-statement : goal.decreases-statement
decreases-statement g l =
    statement_weight (statement_of l.statement.now) + statements_weight (statement_trees l.rest.now) + 5

abbrev pub decreases-let_statement : goal.decreases-let_statement
decreases-let_statement g l =
    annotation_weight (written_type l.written.now)
    + weight (tree_of l.value.now) + statements_weight (statement_trees l.rest.now) + 9

abbrev pub decreases-action : goal.decreases-action
decreases-action g l = weight (tree_of l.value.now) + statements_weight (statement_trees l.rest.now) + 9

abbrev pub decreases-bound : goal.decreases-bound
decreases-bound g l = statements_weight (statement_trees l.rest.now) + 6
