use Rattle.std.proofs.Common.{◌≡◌, ◌++◌, map, take}
use Rattle.qtt_syntax.specs.View.{shape_of}
use Rattle.qtt_split.specs.Group.{dots_of}
use Rattle.qtt_module.specs.GroupCalls.{dot_of}
use Rattle.qtt_module.proofs.pattern_parts.+dots.Given as goal

abbrev pub invariant-dots_among-loop-pattern : goal.invariant-dots_among-loop-pattern
invariant-dots_among-loop-pattern l =
    map dot_of l.dots.items
    ≡ map dot_of l.initial.dots.items ++ dots_of (map shape_of (take l.pattern-index l.patterns))
