-- The parts of a clause, among its variables.
use Rattle.std.proofs.Common.{◌≡◌, ◌∙◌, ap, arith, ℕ, List, reverse, map}
use Rattle.std.specs.Prelude.{filter_map}
use Rattle.std.proofs.lemmas.Grind.{common_steps}
use Rattle.qtt_syntax.specs.View.{tree_of, shape_of}
use Rattle.qtt_syntax.specs.declared.expr.Mark.{Mark}
use Rattle.qtt_syntax.specs.Tree.{shapes}
use Rattle.qtt_syntax.specs.Tree.Item.{clause}
use Rattle.qtt_implicit.specs.Patterns.{all_marks, shape_list}
use Rattle.qtt_implicit.specs.Forget.{number_among, shapes_forgotten, side_forgotten}
use Rattle.qtt_implicit.specs.Forgetting.{number_of, shape_without, without}
use Rattle.qtt_implicit.proofs.ForgottenParts.{marks_row, clause_without}
use Rattle.qtt_implicit.proofs.forgetting.clause_without.Goals as goal

pub returns : goal.returns
returns c =
    let ps = map shape_of c.args.source.now.patterns.items in
    let f = number_of c.in_ok-numbers.numbers in
    let renumber = number_among (reverse (all_marks (shapes ps))) in
    let pushed : c.push_all_marks.new.marks.items ≡ all_marks (shapes ps) = grind (arith, common_steps, marks_row) in
    let marks : c.reverse.new.self.items ≡ reverse (all_marks (shapes ps)) =
    c.reverse.ensures.items ∙ ap reverse pushed in
    let all : c.deref-2.result.now ≡ reverse (all_marks (shapes ps)) = c.deref-2.ensures.value ∙ marks in
    let same : (i : ℕ) → f i ≡ number_among (reverse (all_marks (shapes ps))) i =
    λ i. c.in_ok-numbers.ensures i ∙ ap (λ (ms : List Mark). number_among ms i) all in
    let patterns : map shape_of c.in_ok-patterns.field-0.items ≡ filter_map (shape_without f) ps =
    grind (arith, common_steps) in
    let side : tree_of c.in_ok-expr.field-0 ≡ without f 0 (tree_of c.args.source.now.side) =
    grind (arith, common_steps) in
    clause_without f renumber same c.in_ok-copy.field-0 ps
    (map shape_of c.in_ok-patterns.field-0.items) (tree_of c.args.source.now.side) (tree_of c.in_ok-expr.field-0)
    c.args.source.now.span patterns side
    ∙ ap (λ (n : List ℕ). clause n (shape_list (shapes_forgotten renumber (shapes ps)))
    (side_forgotten renumber (tree_of c.args.source.now.side)) c.args.source.now.span)
    (grind (arith, common_steps))
