use Rattle.std.proofs.Common.{◌≡◌, map, take}
use Rattle.qtt_split.specs.Branch.{moved_column}
use Rattle.qtt_split.specs.Columns.{column_of}
use Rattle.qtt_split.specs.Substitution.{stands_for}
use Rattle.qtt_split.proofs.node.moved_columns.Given as goal

abbrev pub invariant-loop-column : goal.invariant-loop-column
invariant-loop-column l =
    map column_of l.moved.items
    ≡ map (λ c. moved_column (stands_for l.stands) (column_of c)) (take l.column-index l.columns)
