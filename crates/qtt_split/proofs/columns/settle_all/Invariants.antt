use Rattle.qtt_term.specs.Entries.{entries}
use Rattle.qtt_split.proofs.Settling.{SettledSoFar}
use Rattle.qtt_split.proofs.columns.settle_all.Given as goal

abbrev pub invariant-loop-column : goal.invariant-loop-column
invariant-loop-column l = SettledSoFar (entries l.globals) l.columns l.column-index l.left.items
