use Rattle.std.proofs.Common.{◌≡◌, ◌++◌, map, take}
use Rattle.qtt_syntax.specs.View.{shape_of}
use Rattle.qtt_module.specs.Sides.{names_of}
use Rattle.qtt_module.proofs.pattern_parts.+names.Given as goal

abbrev pub invariant-names_among-loop-pattern : goal.invariant-names_among-loop-pattern
invariant-names_among-loop-pattern l =
    l.names.items ≡ l.initial.names.items ++ names_of (map shape_of (take l.pattern-index l.patterns))
