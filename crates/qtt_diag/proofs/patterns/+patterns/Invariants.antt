use Rattle.std.proofs.Common.{◌≡◌, ◌++◌, map, take}
use Rattle.qtt_syntax.specs.Tree.{shapes}
use Rattle.qtt_syntax.specs.View.{shape_of}
use Rattle.qtt_diag.specs.Patterns.{patterns_text}
use Rattle.qtt_diag.proofs.patterns.+patterns.Given as goal

abbrev pub invariant-put_patterns-loop-shape : goal.invariant-put_patterns-loop-shape
invariant-put_patterns-loop-shape l =
    l.out.items ≡ l.fn.out.items ++ patterns_text (shapes (map shape_of (take l.shape-index l.list)))
