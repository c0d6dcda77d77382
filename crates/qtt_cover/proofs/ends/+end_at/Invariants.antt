use Rattle.std.proofs.Common.{◌≡◌, ◌+◌, length}
use Rattle.qtt_cover.proofs.Numbering.{before}
use Rattle.qtt_cover.proofs.ends.+end_at.Given as goal

abbrev pub invariant-end_among-loop-branch : goal.invariant-end_among-loop-branch
invariant-end_among-loop-branch l = l.initial.behind ≡ length (before l.branches l.branch-index) + l.behind
