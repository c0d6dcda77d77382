-- Of what has been passed: the table, and how many were written and inserted.
use Rattle.std.proofs.Common.{◌≡◌, ◌+◌, length, take}
use Rattle.qtt_implicit.proofs.Placed.{IsTable}
use Rattle.qtt_implicit.proofs.filling.places.Places.among.Given as goal

abbrev pub invariant-loop-mark : goal.invariant-loop-mark
invariant-loop-mark l = record {
  table : IsTable l.newer.items l.place (take l.mark-index l.marks);
  place : l.place ≡ l.mark-index;
  inserted : l.inserted + length l.newer.items ≡ l.mark-index;
}
