use Rattle.std.proofs.Common.{◌≡◌, map}
use Rattle.qtt_holes.proofs.Left.{changed}
use Rattle.qtt_module.specs.GivenBodies.{signed_of}
use Rattle.qtt_module.specs.Module.{with_clauses}
use Rattle.qtt_module.proofs.signed.mark.Given as goal

abbrev pub invariant-loop-one : goal.invariant-loop-one
invariant-loop-one l = map signed_of l.signed ≡ changed (with_clauses l.name) l.one-index (map signed_of l.fn.signed)
