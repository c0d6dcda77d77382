use Rattle.std.proofs.Common.{◌≡◌, map, drop}
use Rattle.qtt_split.specs.Columns.{column_of}
use Rattle.qtt_split.specs.Node.{examined}
use Rattle.qtt_split.proofs.columns.first_examined.Given as goal

abbrev pub invariant-loop-column : goal.invariant-loop-column
invariant-loop-column l =
    examined (map column_of l.columns) ≡ examined (map column_of (drop l.column-index l.columns))
