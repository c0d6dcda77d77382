use Rattle.std.proofs.Common.{append_assoc}
use Rattle.qtt_syntax.proofs.Written.{written-append}
use Rattle.qtt_syntax.proofs.printer.items.print.Goals as goal

pub returns : goal.returns
returns c =
    simp (append_assoc, written-append)
    (simp (
      c.in_ok-put_items.ensures,
      c.in_ok-put_imports.ensures,
      c.in_ok-put_name.ensures,
      c.in_ok-put.ensures,
      c.new-out.ensures.items,
      c.deref.ensures.value,
      c.deref-2.ensures.value,
      append_assoc,
    ) at c.in_ok-put-2.ensures)
