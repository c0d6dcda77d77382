use Rattle.std.proofs.Common.{append_assoc}
use Rattle.qtt_syntax.proofs.Written.{written-append}
use Rattle.qtt_syntax.proofs.printer.items.put_clause.Goals as goal

pub returns : goal.returns
returns c =
    simp (append_assoc, written-append)
    (simp (
      c.in_ok-put.ensures,
      c.in_ok-put_patterns.ensures,
      c.in_ok-put_name.ensures,
      c.deref.ensures.value,
      append_assoc,
    ) at c.put_expr.ensures)
