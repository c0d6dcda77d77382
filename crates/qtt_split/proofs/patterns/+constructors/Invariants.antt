use Rattle.std.proofs.Common.{◌≡◌, map, take}
use Rattle.qtt_syntax.specs.View.{shape_of}
use Rattle.qtt_split.specs.Node.{constructors_of}
use Rattle.qtt_split.proofs.patterns.+constructors.Given as goal

abbrev pub invariant-constructors_of-loop-pattern : goal.invariant-constructors_of-loop-pattern
invariant-constructors_of-loop-pattern l =
    l.count ≡ constructors_of (map shape_of (take l.pattern-index l.patterns))
