-- Places of written variables among all variables of a clause.
use Rattle.std.specs.Prelude.{ℕ, ◌+◌, nat_lt, if◌then◌else◌, length, slice_index}
use Rattle.qtt_syntax.specs.Tree.{Shape, Shapes}
use Rattle.qtt_syntax.specs.Tree.Shape.{variable, wildcard, constructor, dot}
use Rattle.qtt_syntax.specs.Tree.Shapes.{no_shape, shape_and}
use Rattle.qtt_implicit.specs.declared.filling.places.Places as places_code
use Rattle.qtt_implicit.specs.Moving.{changed}
use Rattle.qtt_implicit.specs.Forgetting.{renumbering}

-- the place of a written variable, from a table
abbrev pub place_of : places_code.Places → ℕ → ℕ
place_of t i = if nat_lt i (length t.newer.items) then slice_index t.newer.items i else i + t.inserted

abbrev mutual
  -- a pattern in which each local name has its place
  pub shape_renumbered : (ℕ → ℕ) → Shape → Shape
  shape_renumbered place (variable k n s) = variable k n s
  shape_renumbered place (wildcard k s) = wildcard k s
  shape_renumbered place (constructor k h ps s) = constructor k h (shapes_renumbered place ps) s
  shape_renumbered place (dot k e s) = dot k (changed (renumbering place) 0 e) s

  pub shapes_renumbered : (ℕ → ℕ) → Shapes → Shapes
  shapes_renumbered place no_shape = no_shape
  shapes_renumbered place (shape_and p more) = shape_and (shape_renumbered place p) (shapes_renumbered place more)
