use Rattle.std.proofs.Common.{◌≡◌, ◌++◌, map, drop}
use Rattle.qtt_syntax.specs.Tree.{shapes}
use Rattle.qtt_syntax.specs.View.{shape_of}
use Rattle.qtt_syntax.specs.Words.{written}
use Rattle.qtt_syntax.specs.Printing.{patterns}
use Rattle.qtt_syntax.proofs.printer.patterns.+patterns.Given as goal

abbrev pub invariant-put_patterns-loop-shape : goal.invariant-put_patterns-loop-shape
invariant-put_patterns-loop-shape l =
    l.out.items ++ written (patterns (shapes (map shape_of (drop l.shape-index l.list)))) ≡ l.fn.out.items ++
    written (patterns (shapes (map shape_of l.list)))
