use Rattle.std.proofs.Common.{◌≡◌, map, drop}
use Rattle.qtt_module.specs.GivenBodies.{signed_of}
use Rattle.qtt_module.specs.Module.{signed_as}
use Rattle.qtt_module.proofs.signed.signed_as.Given as goal

abbrev pub invariant-loop-one : goal.invariant-loop-one
invariant-loop-one l =
    signed_as l.name (map signed_of l.signed) ≡ signed_as l.name (map signed_of (drop l.one-index l.signed))
