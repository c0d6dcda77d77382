use Rattle.std.proofs.Common.{◌≡◌, map, take}
use Rattle.qtt_split.specs.Branch.{moved_row}
use Rattle.qtt_split.specs.Columns.{row_of}
use Rattle.qtt_split.specs.Substitution.{stands_for}
use Rattle.qtt_split.proofs.node.moved_rows.Given as goal

abbrev pub invariant-loop-row : goal.invariant-loop-row
invariant-loop-row l =
    map row_of l.moved.items ≡ map (λ r. moved_row (stands_for l.stands) (row_of r)) (take l.row-index l.rows)
