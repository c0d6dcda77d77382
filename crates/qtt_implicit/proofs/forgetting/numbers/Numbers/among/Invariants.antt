-- Of what has been passed: the table, and how many were written and inserted.
use Rattle.std.proofs.Common.{◌≡◌, ℕ, ◌+◌, ◌<◌, length, take, get_or}
use Rattle.qtt_implicit.proofs.Numbering.{written_in}
use Rattle.qtt_implicit.proofs.forgetting.numbers.Numbers.among.Given as goal

abbrev pub invariant-loop-mark : goal.invariant-loop-mark
invariant-loop-mark l = record {
  size : length l.newer.items ≡ l.mark-index;
  table : (k : ℕ) → k < l.mark-index → get_or l.newer.items k 0 ≡ written_in (take k l.marks);
  written : l.written ≡ written_in (take l.mark-index l.marks);
  inserted : l.inserted + l.written ≡ l.mark-index;
}
