use Rattle.std.proofs.Common.{◌≡◌, ◌+◌, length}
use Rattle.qtt_cover.proofs.Numbering.{before}
use Rattle.qtt_cover.proofs.ends.+count.Given as goal

abbrev pub invariant-count_all-loop-branch : goal.invariant-count_all-loop-branch
invariant-count_all-loop-branch l = l.counted ≡ l.initial.counted + length (before l.branches l.branch-index)
