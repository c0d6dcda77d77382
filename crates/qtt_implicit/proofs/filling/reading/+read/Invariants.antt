-- What is left of a row is read.
use Rattle.std.proofs.Common.{◌≡◌, map, drop}
use Rattle.qtt_syntax.specs.Tree.{arguments, binders, statements}
use Rattle.qtt_syntax.specs.View.{argument_of, binder_of, statement_of}
use Rattle.qtt_implicit.specs.Nodes.{argument_row, binder_row, statement_row}
use Rattle.qtt_implicit.proofs.filling.reading.+read.Given as goal

abbrev pub invariant-read_arguments-loop-index : goal.invariant-read_arguments-loop-index
invariant-read_arguments-loop-index l =
    argument_row l.row ≡ arguments (map argument_of (drop l.index l.source))

abbrev pub invariant-read_binders-loop-index : goal.invariant-read_binders-loop-index
invariant-read_binders-loop-index l =
    binder_row l.row ≡ binders (map binder_of (drop l.index l.source))

abbrev pub invariant-read_statements-loop-index : goal.invariant-read_statements-loop-index
invariant-read_statements-loop-index l =
    statement_row l.row ≡ statements (map statement_of (drop l.index l.source))
