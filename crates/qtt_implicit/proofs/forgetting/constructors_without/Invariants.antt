-- What has been passed is forgotten.
use Rattle.std.proofs.Common.{◌≡◌, map, take}
use Rattle.qtt_syntax.specs.View.{con_of}
use Rattle.qtt_implicit.specs.Forget.{con_forgotten}
use Rattle.qtt_implicit.proofs.forgetting.constructors_without.Given as goal

abbrev pub invariant-loop-constructor : goal.invariant-loop-constructor
invariant-loop-constructor l =
    map con_of l.done.items ≡ map con_forgotten (map con_of (take l.constructor-index l.source))
