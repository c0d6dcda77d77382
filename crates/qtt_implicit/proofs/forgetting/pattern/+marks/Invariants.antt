-- The marks of what has been passed stand behind the others.
use Rattle.std.proofs.Common.{◌≡◌, ◌++◌, map, take}
use Rattle.std.specs.Prelude.{flat_map}
use Rattle.qtt_syntax.specs.View.{shape_of}
use Rattle.qtt_implicit.specs.Patterns.{marks}
use Rattle.qtt_implicit.proofs.forgetting.pattern.+marks.Given as goal

abbrev pub invariant-push_all_marks-loop-pattern : goal.invariant-push_all_marks-loop-pattern
invariant-push_all_marks-loop-pattern l =
    l.marks.items ≡ l.initial.marks.items ++ flat_map marks (map shape_of (take l.pattern-index l.source))
