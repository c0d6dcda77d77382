-- The table grows by one at each variable that was written.
use Rattle.std.proofs.Common.{◌≡◌, ◌∙◌, ◌+◌, length, get_or, arith, sym, take, ◌++◌, ◌∷◌, [], subst, List, ap, ℕ, Vec, Global}
use Rattle.std.proofs.lemmas.List.{take_all, take_more, length-append}
use Rattle.qtt_syntax.specs.declared.expr.Mark.{Mark}
use Rattle.qtt_syntax.specs.declared.expr.Mark.TheVariants.{Written}
use Rattle.qtt_implicit.proofs.Placed.{IsTable, inserted_step, written_step, table_is}
use Rattle.qtt_implicit.proofs.filling.places.Places.among.Goals as goal
use Rattle.qtt_implicit.proofs.filling.places.Places.among.Goals.{then-is_inserted+in_ok-inserted, else-is_inserted+in_ok-push}

pub loop-mark-preserved : goal.loop-mark-preserved
loop-mark-preserved c =
    let ms = c.args.marks.now in
    let i = c.loop-mark.mark-index in
    let t = c.loop-mark.newer.items in
    let k = c.loop-mark.place in
    let m = get_or ms i Written in
    let next : take (i + 1) ms ≡ take i ms ++ m ∷ [] = take_more ms i Written c.loop-mark-test.true in
    let items = λ (v : Vec ℕ Global). v.items in
    record {
      table = elim c.if-is_inserted.branch [
        | then-is_inserted+in_ok-inserted w ↦
            inserted_step t c.if-is_inserted.newer.items k c.in_ok-place.place (take i ms)
            (take (i + 1) ms) m (ap items w.newer-is)
            c.in_ok-place.ensures next (sym c.is_inserted.ensures ∙ w.if-is_inserted.true) c.loop-mark.invariant.table
        | else-is_inserted+in_ok-push w ↦
            written_step t c.if-is_inserted.newer.items k c.in_ok-place.place (take i ms)
            (take (i + 1) ms) m (ap items w.newer-is ∙ w.in_ok-push.ensures.items)
            c.in_ok-place.ensures next (sym c.is_inserted.ensures ∙ w.if-is_inserted.false) c.loop-mark.invariant.table
      ];
      place = omega (arith, c.in_ok-place.ensures, c.loop-mark.invariant.place);
      inserted = elim c.if-is_inserted.branch [
        | then-is_inserted+in_ok-inserted w ↦
            let size = ap (λ (v : Vec ℕ Global). length v.items) w.newer-is in
            omega (arith, size, w.inserted-is, w.in_ok-inserted.ensures, c.loop-mark.invariant.inserted)
        | else-is_inserted+in_ok-push w ↦
            let size = ap (λ (v : Vec ℕ Global). length v.items) w.newer-is in
            let grown = ap length w.in_ok-push.ensures.items in
            let more = length-append t (k ∷ []) in
            omega (arith, size, grown, more, w.inserted-is, c.loop-mark.invariant.inserted)
      ];
    }

pub returns : goal.returns
returns c =
    let end : c.loop-mark.mark-index ≡ length c.args.marks.now = omega arith in
    let whole = take_all c.loop-mark.mark-index c.args.marks.now (omega arith) in
    table_is c.args.marks.now c.loop-mark.newer.items c.loop-mark.place c.loop-mark.inserted
    (subst (λ (l : List Mark). IsTable c.loop-mark.newer.items c.loop-mark.place l) whole c.loop-mark.invariant.table)
    (omega (arith, c.loop-mark.invariant.inserted, c.loop-mark.invariant.place))
