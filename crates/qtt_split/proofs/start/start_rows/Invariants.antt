use Rattle.qtt_unify.specs.View.{binders}
use Rattle.qtt_split.proofs.Started.{RowsSoFar}
use Rattle.qtt_split.proofs.start.start_rows.Given as goal

abbrev pub invariant-loop-place : goal.invariant-loop-place
invariant-loop-place l = RowsSoFar (binders l.context) l.clauses l.place l.rows.items
