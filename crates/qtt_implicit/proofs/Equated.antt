-- Clauses among all their variables, by a table of places.
use Rattle.std.proofs.Common.{◌≡◌, ◌∙◌, ap, refl, ℕ, List, reverse}
use mathlib.Core.Path.{ap₂, fun_ext}
use Rattle.qtt_syntax.specs.declared.expr.Mark.{Mark}
use Rattle.qtt_syntax.specs.Tree.{Tree, Shape, Shapes, shapes}
use Rattle.qtt_syntax.specs.Tree.Shape.{variable, wildcard, constructor, dot}
use Rattle.qtt_syntax.specs.Tree.Shapes.{no_shape, shape_and}
use Rattle.qtt_implicit.specs.Moving.{changed}
use Rattle.qtt_implicit.specs.Forgetting.{renumbering}
use Rattle.qtt_implicit.specs.Placing.{shape_renumbered, shapes_renumbered}
use Rattle.qtt_implicit.specs.Patterns.{place_among, renumbered, renumbered_shape, renumbered_shapes, shape_list}

module _ (ms : List Mark) where
  mutual
    shape_placed : (p : Shape) → shape_renumbered (place_among (reverse ms)) p ≡ renumbered_shape ms p
    shape_placed (variable k n s) = refl
    shape_placed (wildcard k s) = refl
    shape_placed (constructor k h ps s) = ap (λ (r : Shapes). constructor k h r s) (shapes_placed ps)
    shape_placed (dot k e s) = refl

    shapes_placed : (ps : Shapes) → shapes_renumbered (place_among (reverse ms)) ps ≡ renumbered_shapes ms ps
    shapes_placed no_shape = refl
    shapes_placed (shape_and p more) = ap₂ shape_and (shape_placed p) (shapes_placed more)

  pub tree_among : (f : ℕ → ℕ) → ((i : ℕ) → f i ≡ place_among (reverse ms) i) → (t : Tree) →
      changed (renumbering f) 0 t ≡ renumbered ms t
  tree_among f same t = ap (λ (g : ℕ → ℕ). changed (renumbering g) 0 t) (fun_ext same)

  pub shapes_among : (f : ℕ → ℕ) → ((i : ℕ) → f i ≡ place_among (reverse ms) i) → (ps : Shapes) →
      shapes_renumbered f ps ≡ renumbered_shapes ms ps
  shapes_among f same ps = ap (λ (g : ℕ → ℕ). shapes_renumbered g ps) (fun_ext same) ∙ shapes_placed ps

-- a row of patterns as a list, and again as a row
pub row_again : (ps : Shapes) → shapes (shape_list ps) ≡ ps
row_again no_shape = refl
row_again (shape_and p more) = ap (shape_and p) (row_again more)
