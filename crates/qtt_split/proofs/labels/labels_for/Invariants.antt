use Rattle.qtt_split.proofs.Labelled.{LabelsSoFar}
use Rattle.qtt_split.proofs.labels.labels_for.Given as goal

abbrev pub invariant-loop-place : goal.invariant-loop-place
invariant-loop-place l = LabelsSoFar l.count l.written l.place l.labels.items
