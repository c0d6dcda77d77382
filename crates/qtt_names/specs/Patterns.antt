-- Patterns with the targets of their names, or the first fault in text order.
use Rattle.std.specs.Prelude.{ℕ, Bool, cond, List, [], ◌∷◌, ◌++◌, Ok}
use Rattle.std.specs.List.{list_any}
use Rattle.qtt_base.specs.declared.place.Span.{Span}
use Rattle.qtt_syntax.specs.Tree.{Shape, Shapes}
use Rattle.qtt_syntax.specs.Tree.Shape.{variable, wildcard, constructor, dot}
use Rattle.qtt_syntax.specs.Tree.Shapes.{no_shape, shape_and}
use Rattle.qtt_names.specs.Answer.{Answer, duplicate, ◌>>=◌}
use Rattle.qtt_names.specs.Scope.{same_name}
use Rattle.qtt_names.specs.Filled.{Names, filled}

-- the name is one of them
abbrev pub is_among : List ℕ → List (List ℕ) → Bool
is_among n = list_any (same_name n)

-- a name that none before it has
abbrev pub first_of : List (List ℕ) → List ℕ → Span → Answer (Unit {0})
first_of before n s = cond (is_among n before) (duplicate n s) (Ok tt)

abbrev mutual
  -- the variables of a pattern, in text order
  pub variables : Shape → List (List ℕ)
  variables (variable k n s) = n ∷ []
  variables (wildcard k s) = []
  variables (constructor k h ps s) = variables_of ps
  variables (dot k e s) = []

  pub variables_of : Shapes → List (List ℕ)
  variables_of no_shape = []
  variables_of (shape_and p more) = variables p ++ variables_of more

-- behind a pattern stand its variables too
abbrev pub behind_shape : List (List ℕ) → Shape → List (List ℕ)
behind_shape before p = before ++ variables p

abbrev mutual
  -- A pattern behind these variables of its clause, where Γ are all the clause's variables: they count in each
  -- dot pattern. The name of a constructor is no local one.
  pub filled_shape : Names → List (List ℕ) → List (List ℕ) → Shape → Answer Shape
  filled_shape names Γ before (variable k n s) = do
    u ← first_of before n s
    Ok (variable k n s)
  filled_shape names Γ before (wildcard k s) = Ok (wildcard k s)
  filled_shape names Γ before (constructor k h ps s) = do
    h' ← names [] h
    ps' ← filled_shapes names Γ before ps
    Ok (constructor k h' ps' s)
  filled_shape names Γ before (dot k e s) = do
    e' ← filled names Γ e
    Ok (dot k e' s)

  pub filled_shapes : Names → List (List ℕ) → List (List ℕ) → Shapes → Answer Shapes
  filled_shapes names Γ before no_shape = Ok no_shape
  filled_shapes names Γ before (shape_and p more) = do
    p' ← filled_shape names Γ before p
    more' ← filled_shapes names Γ (behind_shape before p) more
    Ok (shape_and p' more')
