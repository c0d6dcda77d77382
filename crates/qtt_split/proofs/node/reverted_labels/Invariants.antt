use Rattle.std.proofs.Common.{◌≡◌, take}
use Rattle.qtt_split.specs.Branch.{reverted_labels}
use Rattle.qtt_split.specs.Labels.{labels_of, newest_labels}
use Rattle.qtt_split.proofs.node.reverted_labels.Given as goal

abbrev pub invariant-loop-bound : goal.invariant-loop-bound
invariant-loop-bound l =
    labels_of l.names.items ≡ reverted_labels (newest_labels l.labels) (take l.bound-index l.reverted)
