-- The variables of what has been passed stand behind the others.
use Rattle.std.proofs.Common.{◌≡◌, ◌++◌, map, take}
use Rattle.std.specs.List.{flat_map}
use Rattle.qtt_syntax.specs.View.{shape_of}
use Rattle.qtt_names.specs.Patterns.{variables}
use Rattle.qtt_names.proofs.pattern.+variables.Given as goal

abbrev pub invariant-push_all_variables-loop-pattern : goal.invariant-push_all_variables-loop-pattern
invariant-push_all_variables-loop-pattern l =
    l.variables.items ≡ l.initial.variables.items ++ flat_map variables (map shape_of (take l.pattern-index l.source))
