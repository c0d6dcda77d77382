use Rattle.std.proofs.Common.{rules, arith, ◌≡◌, ◌++◌, ◌∷◌, [], map, ap, ◌∙◌}
use Rattle.std.proofs.lemmas.Grind.{common_steps}
use Rattle.qtt_syntax.specs.Tree.{shapes}
use Rattle.qtt_syntax.specs.Tree.Shape.{constructor}
use Rattle.qtt_syntax.specs.View.{shape_of}
use Rattle.qtt_syntax.proofs.Rows.{constructor_view}
use Rattle.qtt_core_print.specs.Names.{unqualified}
use Rattle.qtt_diag.specs.Patterns.{pattern_text, patterns_text}
use Rattle.qtt_diag.proofs.PatternParts.{one_more_pattern, bare_constructor, constructor_with_arguments}
use Rattle.qtt_diag.proofs.patterns.+patterns.Goals as goal

pub put_pattern-returns-then-is_empty : goal.put_pattern-returns-then-is_empty
put_pattern-returns-then-is_empty t c =
    let p = c.in-Constructor in
    let form : shape_of c.args.shape.now ≡ constructor p.mark p.head (shapes (map shape_of p.arguments.items)) p.span =
    ap shape_of p.is ∙ constructor_view p.mark p.head p.arguments p.span in
    let told : pattern_text (shape_of c.args.shape.now) ≡ unqualified p.head.path =
    ap pattern_text form ∙
    bare_constructor (unqualified p.head.path) p.arguments.items (search rules) in
    rw told (search rules)

pub put_pattern-returns-in_ok-put_patterns-in-Constructor :
    goal.put_pattern-returns-in_ok-put_patterns-in-Constructor
put_pattern-returns-in_ok-put_patterns-in-Constructor t c =
    let p = c.in-Constructor in
    let form : shape_of c.args.shape.now ≡ constructor p.mark p.head (shapes (map shape_of p.arguments.items)) p.span =
    ap shape_of p.is ∙ constructor_view p.mark p.head p.arguments p.span in
    let told : pattern_text (shape_of c.args.shape.now) ≡
    40 ∷ (unqualified p.head.path ++ (patterns_text (shapes (map shape_of p.arguments.items)) ++ 41 ∷ [])) =
    ap pattern_text form ∙
    constructor_with_arguments (unqualified p.head.path) p.arguments.items (search rules) in
    rw told (grind (arith, common_steps))

pub put_patterns-loop-shape-preserved : goal.put_patterns-loop-shape-preserved
put_patterns-loop-shape-preserved t c = grind (arith, common_steps, one_more_pattern)
