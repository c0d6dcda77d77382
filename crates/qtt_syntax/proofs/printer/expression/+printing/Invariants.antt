use Rattle.std.proofs.Common.{◌≡◌, ◌++◌, map, drop}
use Rattle.qtt_syntax.specs.Tree as tree
use Rattle.qtt_syntax.specs.View.{argument_of, binder_of, statement_of}
use Rattle.qtt_syntax.specs.Words.{written}
use Rattle.qtt_syntax.specs.Printing.{arguments, binders, statements}
use Rattle.qtt_syntax.proofs.printer.expression.+printing.Given as goal

abbrev pub invariant-put_arguments-loop-i : goal.invariant-put_arguments-loop-i
invariant-put_arguments-loop-i l =
    l.out.items ++ written (arguments l.blanks (tree.arguments (map argument_of (drop l.i l.list)))) ≡
    l.fn.out.items ++ written (arguments l.blanks (tree.arguments (map argument_of l.list)))

abbrev pub invariant-put_binders-loop-binder : goal.invariant-put_binders-loop-binder
invariant-put_binders-loop-binder l =
    l.out.items ++ written (binders l.blanks (tree.binders (map binder_of (drop l.binder-index l.list)))) ≡
    l.fn.out.items ++ written (binders l.blanks (tree.binders (map binder_of l.list)))

abbrev pub invariant-put_statements-loop-statement : goal.invariant-put_statements-loop-statement
invariant-put_statements-loop-statement l =
    l.out.items ++ written (statements l.blanks
    (tree.statements (map statement_of (drop l.statement-index l.list)))) ≡ l.fn.out.items ++ written
    (statements l.blanks (tree.statements (map statement_of l.list)))
