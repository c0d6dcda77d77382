-- The table grows by one, and is whole in the end.
use Rattle.std.proofs.Common.{◌≡◌, ◌∙◌, length, get_or, arith, ap, sym}
use Rattle.std.proofs.lemmas.Grind.{common_steps}
use Rattle.std.proofs.lemmas.List.{take_all}
use Rattle.qtt_syntax.specs.declared.expr.Mark.TheVariants.{Written}
use Rattle.qtt_implicit.proofs.Numbering.{written_in, none_written, one_written, table_more, written_more, table_is}
use Rattle.qtt_implicit.proofs.forgetting.numbers.Numbers.among.Goals as goal
use Rattle.qtt_implicit.proofs.forgetting.numbers.Numbers.among.Goals.{then-is_inserted+in_ok-inserted, else-is_inserted+in_ok-written}

pub loop-mark-preserved : goal.loop-mark-preserved
loop-mark-preserved c =
    let ms = c.args.marks.now in
    let i = c.loop-mark.mark-index in
    let more = written_more ms i Written c.loop-mark-test.true in
    record {
      size = grind (arith, common_steps);
      table = rw c.in_ok-push.ensures.items (table_more c.args.marks.now c.loop-mark.newer.items c.loop-mark.mark-index
          c.loop-mark.written c.loop-mark.invariant.size c.loop-mark.invariant.table c.loop-mark.invariant.written);
      written = elim c.if-is_inserted.branch [
        | then-is_inserted+in_ok-inserted w ↦
            let none = none_written (get_or ms i Written) (sym c.is_inserted.ensures ∙ w.if-is_inserted.true) in
            omega (arith, none, more, w.written-is, c.loop-mark.invariant.written)
        | else-is_inserted+in_ok-written w ↦
            let one = one_written (get_or ms i Written) (sym c.is_inserted.ensures ∙ w.if-is_inserted.false) in
            omega (arith, one, more, w.written-is, w.in_ok-written.ensures, c.loop-mark.invariant.written)
      ];
      inserted = elim c.if-is_inserted.branch [
        | then-is_inserted+in_ok-inserted w ↦
            omega (arith, w.written-is, w.inserted-is, w.in_ok-inserted.ensures, c.loop-mark.invariant.inserted)
        | else-is_inserted+in_ok-written w ↦
            omega (arith, w.written-is, w.inserted-is, w.in_ok-written.ensures, c.loop-mark.invariant.inserted)
      ];
    }

pub returns : goal.returns
returns c =
    let end : c.loop-mark.mark-index ≡ length c.args.marks.now = omega arith in
    let whole = take_all c.loop-mark.mark-index c.args.marks.now (omega arith) in
    table_is c.args.marks.now c.loop-mark.newer.items c.loop-mark.inserted
    (c.loop-mark.invariant.size ∙ end)
    (λ k h. c.loop-mark.invariant.table k (omega arith))
    (let e = ap written_in whole in omega (arith, e))
