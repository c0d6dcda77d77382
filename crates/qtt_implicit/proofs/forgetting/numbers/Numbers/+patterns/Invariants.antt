-- What has been passed is forgotten.
use Rattle.std.proofs.Common.{◌≡◌, map, take}
use Rattle.std.specs.Prelude.{filter_map}
use Rattle.qtt_syntax.specs.View.{shape_of}
use Rattle.qtt_implicit.specs.Forgetting.{number_of, shape_without}
use Rattle.qtt_implicit.proofs.forgetting.numbers.Numbers.+patterns.Given as goal

abbrev pub invariant-patterns-loop-pattern : goal.invariant-patterns-loop-pattern
invariant-patterns-loop-pattern l =
    map shape_of l.done.items ≡
    filter_map (shape_without (number_of l.self)) (map shape_of (take l.pattern-index l.source))
