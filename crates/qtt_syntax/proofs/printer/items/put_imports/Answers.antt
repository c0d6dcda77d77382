use Rattle.std.proofs.Common.{◌≡◌, ◌+◌, ◌++◌, refl, append_assoc, codes}
use Rattle.qtt_syntax.specs.Words.{written}
use Rattle.qtt_syntax.specs.Printing.{imports}
use Rattle.qtt_syntax.proofs.Written.{one_more}
use Rattle.qtt_syntax.proofs.printer.items.put_imports.Goals as goal

pub loop-import-preserved : goal.loop-import-preserved
loop-import-preserved c =
    let x = c.import-item.result in
    let words = codes "\nimport " ++ x.name in
    let grows : c.put_name.new.out.items ≡ c.loop-import.out.items ++ words =
    simp (c.in_ok-put.ensures, append_assoc) at c.in_ok-put_name.ensures in
    one_more (λ xs. written (imports xs)) c.args.list.now c.loop-import.import-index x c.args.out.now.items
    c.loop-import.out.items c.put_name.new.out.items words c.loop-import-test.true c.import-item.is refl
    c.loop-import.invariant grows
