use Rattle.qtt_term.specs.Entries.{entries}
use Rattle.qtt_split.proofs.Settling.{NoneSoFar}
use Rattle.qtt_split.proofs.columns.decide.Given as goal

abbrev pub invariant-loop-place : goal.invariant-loop-place
invariant-loop-place l = NoneSoFar (entries l.globals) l.rows l.place
