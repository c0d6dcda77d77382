use Rattle.std.proofs.Common.{length}
use Rattle.qtt_unify.specs.View.{binders}
use Rattle.qtt_split.proofs.Started.{ColumnsSoFar}
use Rattle.qtt_split.proofs.start.start_columns.Given as goal

abbrev pub invariant-loop-place : goal.invariant-loop-place
invariant-loop-place l =
    ColumnsSoFar (binders l.context) l.patterns (length (binders l.context)) l.place l.columns.items
