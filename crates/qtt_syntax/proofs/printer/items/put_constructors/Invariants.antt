use Rattle.std.proofs.Common.{◌≡◌, ◌++◌, map, drop}
use Rattle.qtt_syntax.specs.View.{con_of}
use Rattle.qtt_syntax.specs.Words.{written}
use Rattle.qtt_syntax.specs.Printing.{cons}
use Rattle.qtt_syntax.proofs.printer.items.put_constructors.Given as goal

abbrev pub invariant-loop-constructor : goal.invariant-loop-constructor
invariant-loop-constructor l =
    l.out.items ++ written (cons (map con_of (drop l.constructor-index l.list))) ≡ l.fn.out.items ++ written
    (cons (map con_of l.list))
