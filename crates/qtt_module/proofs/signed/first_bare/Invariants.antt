use Rattle.std.proofs.Common.{◌≡◌, map, drop}
use Rattle.qtt_module.specs.GivenBodies.{signed_of}
use Rattle.qtt_module.specs.Module.{first_bare}
use Rattle.qtt_module.proofs.signed.first_bare.Given as goal

abbrev pub invariant-loop-one : goal.invariant-loop-one
invariant-loop-one l =
    first_bare (map signed_of l.signed) ≡ first_bare (map signed_of (drop l.one-index l.signed))
