use Rattle.std.proofs.Common.{◌∙◌}
use Rattle.qtt_split.proofs.Labelled.{name-got, name-past}
use Rattle.qtt_split.proofs.labels.written_label.Goals as goal

pub returns-then-place-written : goal.returns-then-place-written
returns-then-place-written c =
    c.bound_name.ensures ∙
    name-got c.args.written.now c.args.place c.index-written-place.result c.if-place-written.true
    c.index-written-place.is

pub returns-else-place-written : goal.returns-else-place-written
returns-else-place-written c = name-past c.args.written.now c.args.place c.if-place-written.false
