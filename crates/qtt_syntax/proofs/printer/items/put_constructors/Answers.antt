use Rattle.std.proofs.Common.{◌≡◌, ℕ, ◌+◌, List, ◌++◌, map, drop, ap, append_assoc, codes}
use Rattle.qtt_syntax.specs.View.{con_of}
use Rattle.qtt_syntax.specs.Words.{written}
use Rattle.qtt_syntax.specs.Printing.{cons, con_words}
use Rattle.qtt_syntax.proofs.Written.{one_more, first_con}
use Rattle.qtt_syntax.proofs.printer.items.put_constructors.Goals as goal

pub loop-constructor-preserved : goal.loop-constructor-preserved
loop-constructor-preserved c =
    let x = c.constructor-item.result in
    let rest = map con_of (drop (c.loop-constructor.constructor-index + 1) c.args.list.now) in
    let words = codes "\n  " ++ written (con_words (con_of x)) in
    let grows : c.put_expr.new.out.items ≡ c.loop-constructor.out.items ++ words =
    simp (c.in_ok-put.ensures, c.in_ok-put_name.ensures, c.in_ok-new_line.ensures, append_assoc) at
    c.in_ok-put_expr.ensures in
    one_more (λ xs. written (cons (map con_of xs))) c.args.list.now c.loop-constructor.constructor-index x
    c.args.out.now.items c.loop-constructor.out.items c.put_expr.new.out.items words
    c.loop-constructor-test.true c.constructor-item.is
    (ap (λ (v : List ℕ). codes "\n  " ++ v) (first_con rest (con_words (con_of x))))
    c.loop-constructor.invariant grows
