use Rattle.std.proofs.Common.{◌≡◌, map, take}
use Rattle.qtt_syntax.specs.View.{shape_of}
use Rattle.qtt_cover.proofs.copying.+copied.Given as goal

abbrev pub invariant-copied_all-loop-pattern : goal.invariant-copied_all-loop-pattern
invariant-copied_all-loop-pattern l = map shape_of l.copies.items ≡ map shape_of (take l.pattern-index l.source)
