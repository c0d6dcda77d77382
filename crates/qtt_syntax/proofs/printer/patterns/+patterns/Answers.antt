use Rattle.std.proofs.Common.{◌≡◌, ℕ, ◌+◌, List, ◌∷◌, ◌++◌, length, map, drop, ap, ◌∙◌, append_assoc, arith}
use Rattle.std.proofs.lemmas.List.{append-nil}
use Rattle.std.proofs.lemmas.List.{length-map}
use Rattle.std.proofs.lemmas.Grind.{common_steps}
use Rattle.qtt_syntax.specs.Tree.{shapes}
use Rattle.qtt_syntax.specs.Tree.Shape.{constructor}
use Rattle.qtt_syntax.specs.View.{shape_of}
use Rattle.qtt_syntax.specs.Words.{written}
use Rattle.qtt_syntax.specs.Printing.{pattern, patterns}
use Rattle.qtt_syntax.proofs.Rows.{constructor_view}
use Rattle.qtt_syntax.proofs.Written.{one_more, written-append, bare_pattern, full_pattern}
use Rattle.qtt_syntax.proofs.printer.patterns.+patterns.Goals as goal

pub put_pattern-returns-then-is_empty : goal.put_pattern-returns-then-is_empty
put_pattern-returns-then-is_empty t c =
    let ps = map shape_of c.in-Constructor.arguments.items in
    let view : shape_of c.args.shape.now ≡ constructor c.in-Constructor.mark c.in-Constructor.head
    (shapes ps) c.in-Constructor.span =
    ap shape_of c.in-Constructor.is ∙ constructor_view c.in-Constructor.mark c.in-Constructor.head
    c.in-Constructor.arguments c.in-Constructor.span in
    let none : length ps ≡ 0 = rw length-map (grind (arith, common_steps)) in
    rw (view, bare_pattern c.in-Constructor.mark c.in-Constructor.head ps c.in-Constructor.span none)
    (simp append-nil c.put_name-then-is_empty.ensures)

pub put_pattern-returns-in_ok-put_patterns-in-Constructor : goal.put_pattern-returns-in_ok-put_patterns-in-Constructor
put_pattern-returns-in_ok-put_patterns-in-Constructor t c =
    let ps = map shape_of c.in-Constructor.arguments.items in
    let view : shape_of c.args.shape.now ≡ constructor c.in-Constructor.mark c.in-Constructor.head
    (shapes ps) c.in-Constructor.span =
    ap shape_of c.in-Constructor.is ∙ constructor_view c.in-Constructor.mark c.in-Constructor.head
    c.in-Constructor.arguments c.in-Constructor.span in
    let some : length ps ≡ 0 → ⊥ = λ e. let none : length c.in-Constructor.arguments.items ≡ 0 =
    rw length-map at e in grind (arith, common_steps) in
    rw (view, full_pattern c.in-Constructor.mark c.in-Constructor.head ps c.in-Constructor.span some)
    (simp (append_assoc, written-append)
    (simp (
      c.in_ok-put_patterns-in-Constructor.ensures,
      c.in_ok-put_name-in-Constructor.ensures,
      c.in_ok-put-in-Constructor.ensures,
      c.deref.ensures.value,
      append_assoc,
    ) at
    c.put-in-Constructor-2.ensures))

pub put_pattern-returns-in_ok-put_expr-in-Dot : goal.put_pattern-returns-in_ok-put_expr-in-Dot
put_pattern-returns-in_ok-put_expr-in-Dot t c =
    rw c.in-Dot.is (simp (append_assoc, written-append)
    (simp (c.in_ok-put_expr-in-Dot.ensures, c.in_ok-put-in-Dot.ensures, append_assoc) at
    c.put-in-Dot-2.ensures))

pub put_patterns-loop-shape-preserved : goal.put_patterns-loop-shape-preserved
put_patterns-loop-shape-preserved t c =
    let x = c.shape-item.result in
    let first = pattern (shape_of x) in
    let rest = patterns (shapes (map shape_of (drop (c.loop-shape.shape-index + 1) c.args.list.now))) in
    let grows : c.put_pattern.new.out.items ≡ c.loop-shape.out.items ++ 32 ∷ written first =
    simp (c.in_ok-put.ensures, append_assoc) at c.in_ok-put_pattern.ensures in
    one_more (λ xs. written (patterns (shapes (map shape_of xs)))) c.args.list.now c.loop-shape.shape-index x
    c.args.out.now.items c.loop-shape.out.items c.put_pattern.new.out.items
    (32 ∷ written first) c.loop-shape-test.true c.shape-item.is
    (ap (λ (v : List ℕ). 32 ∷ v) (written-append first rest)) c.loop-shape.invariant grows
