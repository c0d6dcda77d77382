-- What has been passed is written.
use Rattle.std.proofs.Common.{◌≡◌, map, take}
use Rattle.qtt_names.specs.Exports.{sig_of}
use Rattle.qtt_implicit.specs.Answering.{sig_of_own}
use Rattle.qtt_implicit.proofs.filling.texts.written_sigs.Given as goal

abbrev pub invariant-loop-item : goal.invariant-loop-item
invariant-loop-item l = map sig_of l.sigs.items ≡ map sig_of_own (take l.item-index l.own)
