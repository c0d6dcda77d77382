use Rattle.std.proofs.Common.{◌≡◌, map, take}
use Rattle.qtt_bidi.specs.Seen.{stands}
use Rattle.qtt_module.proofs.contexts.copied_names.Given as goal

abbrev pub invariant-loop-term : goal.invariant-loop-term
invariant-loop-term l = map stands l.copies.items ≡ map stands (take l.term-index l.names)
