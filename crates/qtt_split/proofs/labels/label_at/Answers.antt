use Rattle.qtt_split.proofs.Labelled.{label-of, label-past_all}
use Rattle.qtt_split.proofs.labels.label_at.Goals as goal

pub returns-then-place-labels : goal.returns-then-place-labels
returns-then-place-labels c =
    label-of c.args.labels.now c.args.variable c.index-labels-labels.result c.if-place-labels.true
    c.index-labels-labels.is

pub returns-else-place-labels : goal.returns-else-place-labels
returns-else-place-labels c = label-past_all c.args.labels.now c.args.variable c.if-place-labels.false
