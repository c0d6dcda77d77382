-- Patterns: their parts in turn.
use Rattle.std.proofs.Common.{◌≡◌, ◌∙◌, ap, sym, refl, map, Vec}
use Rattle.std.specs.Global.{Global}
use mathlib.Core.Path.{ap₂}
use Rattle.std.proofs.lemmas.Grind.{common_steps}
use Rattle.qtt_base.specs.declared.place.Span.{Span}
use Rattle.qtt_syntax.specs.declared.expr.Mark.{Mark}
use Rattle.qtt_syntax.specs.declared.expr.Named.{Named}
use Rattle.qtt_syntax.specs.declared.pattern.Pattern.{Pattern, the_lemmas}
use Rattle.qtt_syntax.specs.declared.pattern.Pattern.TheVariants as pattern
use Rattle.qtt_syntax.specs.View.{shape_of}
use Rattle.qtt_syntax.specs.Tree.{Shapes, shapes}
use Rattle.qtt_syntax.specs.Tree.Shape.{constructor}
use Rattle.qtt_syntax.specs.Tree.Shapes.{no_shape, shape_and}
use Rattle.qtt_syntax.proofs.Rows.{constructor_view}
use Rattle.qtt_implicit.specs.declared.filling.shapes.Shape.{the_lemmas as shape_lemmas}
use Rattle.qtt_implicit.specs.Patterns.{shape_list}

pub shapes_listed : (ps : Shapes) → shapes (shape_list ps) ≡ ps
shapes_listed no_shape = refl
shapes_listed (shape_and p more) = ap (shape_and p) (shapes_listed more)

pub written_constructor : (k : Mark) (h : Named) (v : Vec Pattern Global) (s : Span) (ps : Shapes) →
    map shape_of v.items ≡ shape_list ps → shape_of (pattern.Constructor k h v s) ≡ constructor k h ps s
written_constructor k h v s ps row =
    constructor_view k h v s ∙ ap (λ x. constructor k h x s) (ap shapes row ∙ shapes_listed ps)

pub read_constructor : (p : Pattern) (k : Mark) (h : Named) (v : Vec Pattern Global) (s : Span) (n : Named)
    (ps : Shapes) → p ≡ pattern.Constructor k h v s → n ≡ h → ps ≡ shapes (map shape_of v.items) →
    constructor k n ps s ≡ shape_of p
read_constructor p k h v s n ps is one other =
    ap₂ (λ x y. constructor k x y s) one other ∙ sym (constructor_view k h v s) ∙ sym (ap shape_of is)

pub ruleset parts = (
  the_lemmas,
  shape_lemmas,
  common_steps,
  constructor_view,
  shapes_listed,
)
