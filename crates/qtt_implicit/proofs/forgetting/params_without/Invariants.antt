-- What has been passed is forgotten.
use Rattle.std.proofs.Common.{◌≡◌, map, take}
use Rattle.qtt_syntax.specs.View.{param_of}
use Rattle.qtt_implicit.specs.Forget.{param_forgotten}
use Rattle.qtt_implicit.proofs.forgetting.params_without.Given as goal

abbrev pub invariant-loop-param : goal.invariant-loop-param
invariant-loop-param l =
    map param_of l.done.items ≡ map param_forgotten (map param_of (take l.param-index l.source))
