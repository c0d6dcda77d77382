-- The patterns of a clause that is missing: each constructor without its module, and each variable as `_`.
use Rattle.std.specs.Prelude.{ℕ, List, [], ◌∷◌, ◌++◌, codes}
use Rattle.qtt_syntax.specs.Tree.{Shape, Shapes, shapes}
use Rattle.qtt_syntax.specs.Tree.Shape.{variable, wildcard, constructor, dot}
use Rattle.qtt_syntax.specs.Tree.Shapes.{no_shape, shape_and}
use Rattle.qtt_core_print.specs.Names.{unqualified}

-- a constructor with its arguments, which are told already
abbrev pub constructed : List ℕ → List ℕ → List ℕ
constructed name [] = name
constructed name (b ∷ bs) = codes "(" ++ name ++ (b ∷ bs) ++ codes ")"

abbrev mutual
  pub pattern_text : Shape → List ℕ
  pattern_text (variable k n s) = codes "_"
  pattern_text (wildcard k s) = codes "_"
  pattern_text (constructor k h ps s) = constructed (unqualified h.path) (patterns_text ps)
  pattern_text (dot k t s) = codes "_"

  -- each behind a blank
  pub patterns_text : Shapes → List ℕ
  patterns_text no_shape = []
  patterns_text (shape_and p more) = 32 ∷ (pattern_text p ++ patterns_text more)

-- a definition and its patterns
abbrev pub clause_text : List ℕ → List Shape → List ℕ
clause_text d ps = unqualified d ++ patterns_text (shapes ps)

-- ---- beside the printer of module texts
abbrev mutual
  -- the pattern as it is told
  pub shown : Shape → Shape
  shown (variable k n s) = wildcard k s
  shown (wildcard k s) = wildcard k s
  shown (constructor k h ps s) =
      constructor k (record { path = unqualified h.path; target = h.target; span = h.span }) (shown_all ps) s
  shown (dot k t s) = wildcard k s

  pub shown_all : Shapes → Shapes
  shown_all no_shape = no_shape
  shown_all (shape_and p more) = shape_and (shown p) (shown_all more)
