-- The names that have been passed are put in.
use Rattle.std.proofs.Common.{◌≡◌, [], take}
use Rattle.qtt_names.specs.PrimNames.{with_names}
use Rattle.qtt_names.proofs.exports.numbered.Given as goal

abbrev pub invariant-loop-number : goal.invariant-loop-number
invariant-loop-number l = l.items.entries ≡ with_names [] 0 (take l.number l.names)
