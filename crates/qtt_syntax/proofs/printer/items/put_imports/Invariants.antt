use Rattle.std.proofs.Common.{◌≡◌, ◌++◌, drop}
use Rattle.qtt_syntax.specs.Words.{written}
use Rattle.qtt_syntax.specs.Printing.{imports}
use Rattle.qtt_syntax.proofs.printer.items.put_imports.Given as goal

abbrev pub invariant-loop-import : goal.invariant-loop-import
invariant-loop-import l =
    l.out.items ++ written (imports (drop l.import-index l.list)) ≡ l.fn.out.items ++ written (imports l.list)
