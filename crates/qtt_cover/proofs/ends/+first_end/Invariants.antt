use Rattle.std.proofs.Common.{◌≡◌, ◌+◌, length, None}
use Rattle.qtt_split.specs.Missing.{first_there}
use Rattle.qtt_cover.proofs.Numbering.{before}
use Rattle.qtt_cover.proofs.ends.+first_end.Given as goal

abbrev pub invariant-first_among-loop-branch : goal.invariant-first_among-loop-branch
invariant-first_among-loop-branch l = record {
  none : first_there l.initial.passed (before l.branches l.branch-index) ≡ None;
  passed : l.passed ≡ l.initial.passed + length (before l.branches l.branch-index);
}
