-- The table of places is that of the marks, the newest first.
use Rattle.std.proofs.Common.{◌≡◌, ◌∙◌, ap, arith, ℕ, List, length, reverse}
use Rattle.std.proofs.lemmas.List.{length-reverse}
use Rattle.qtt_syntax.specs.declared.expr.Mark.{Mark}
use Rattle.qtt_implicit.specs.Nodes.{node_tree}
use Rattle.qtt_implicit.specs.Patterns.{all_marks, place_among}
use Rattle.qtt_implicit.specs.Placing.{place_of}
use Rattle.qtt_implicit.specs.Shaping.{shape_row}
use Rattle.qtt_implicit.proofs.Equated.{shapes_among, tree_among}
use Rattle.qtt_implicit.proofs.filling.clauses.among_all.Goals as goal

pub returns : goal.returns
returns c =
    let ps = shape_row c.args.patterns.now in
    let ms = all_marks ps in
    let f = place_of c.in_ok-places.places in
    let marks : c.deref.result.now ≡ reverse ms = c.deref.ensures.value ∙ c.in_ok-marks.ensures in
    let same : (i : ℕ) → f i ≡ place_among (reverse ms) i =
    λ i. c.in_ok-places.ensures i ∙ ap (λ (xs : List Mark). place_among xs i) marks in
    let size : length c.in_ok-marks.marks.items ≡ length ms =
    ap length c.in_ok-marks.ensures ∙ length-reverse ms in
    record {
      patterns = c.in_ok-shapes.ensures ∙ shapes_among ms f same ps;
      side_is = c.in_ok-node.ensures ∙ tree_among ms f same (node_tree c.args.side.now);
      variables = omega (arith, size, c.in_ok-more.ensures, c.len.ensures);
    }
