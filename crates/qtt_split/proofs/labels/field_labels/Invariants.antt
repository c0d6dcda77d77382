use Rattle.std.proofs.Common.{◌≡◌, map, take}
use Rattle.qtt_term.specs.Scope.{name_of}
use Rattle.qtt_split.specs.Labels.{labels_of}
use Rattle.qtt_split.proofs.labels.field_labels.Given as goal

abbrev pub invariant-loop-name : goal.invariant-loop-name
invariant-loop-name l = labels_of l.labels.items ≡ map name_of (take l.name-index l.fields)
