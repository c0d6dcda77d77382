-- The signatures that have been passed are copied.
use Rattle.std.proofs.Common.{◌≡◌, map, take}
use Rattle.qtt_names.specs.Exports.{sig_of}
use Rattle.qtt_names.proofs.exports.copied_sigs.Given as goal

abbrev pub invariant-loop-sig : goal.invariant-loop-sig
invariant-loop-sig l = map sig_of l.copies.items ≡ map sig_of (take l.sig-index l.sigs)
