-- What has been passed is read.
use Rattle.std.proofs.Common.{◌≡◌, map, take}
use Rattle.qtt_names.specs.Exports.{sig_of}
use Rattle.qtt_implicit.specs.Signatures.{signature_of}
use Rattle.qtt_implicit.proofs.filling.texts.read_sigs.Given as goal

abbrev pub invariant-loop-sig : goal.invariant-loop-sig
invariant-loop-sig l = map signature_of l.sigs.items ≡ map sig_of (take l.sig-index l.source)
