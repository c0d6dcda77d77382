-- Patterns in turn.
use Rattle.std.proofs.Common.{◌≡◌, ℕ, List, [], ◌∷◌, ◌++◌, Ok, refl, ap, sym, ◌∙◌, fold, append_assoc, append-nil, map, Vec, Global}
use Rattle.std.specs.List.{flat_map}
use Rattle.std.proofs.lemmas.Grind.{common_steps}
use Rattle.qtt_base.specs.declared.place.Span.{Span}
use Rattle.qtt_syntax.specs.declared.expr.Mark.{Mark}
use Rattle.qtt_syntax.specs.declared.expr.Named.{Named}
use Rattle.qtt_syntax.specs.declared.pattern.Pattern.{Pattern, the_lemmas}
use Rattle.qtt_syntax.specs.declared.pattern.Pattern.TheVariants as pattern
use Rattle.qtt_syntax.specs.Tree.Shape.{constructor}
use Rattle.qtt_syntax.specs.View.{shape_of}
use Rattle.qtt_syntax.specs.Tree.{Shape, Shapes, shapes}
use Rattle.qtt_syntax.specs.Tree.Shapes.{shape_and}
use Rattle.qtt_syntax.proofs.Rows.{constructor_view}
use Rattle.qtt_names.specs.Answer.{Answer, ◌>>=◌}
use Rattle.qtt_names.specs.InTurn.{in_turn}
use Rattle.qtt_names.specs.Filled.{Names}
use Rattle.qtt_names.specs.Patterns.{variables, variables_of, behind_shape, filled_shape, filled_shapes}
use Rattle.qtt_names.proofs.Steps.{ok_then, err_then, in_turn-one_more}
use Rattle.qtt_names.proofs.Parts.{turned}

pub shapes_in_turn : (names : Names) (Γ before : List (List ℕ)) (xs : List Shape)
    → filled_shapes names Γ before (shapes xs) ≡
    (in_turn (filled_shape names Γ) behind_shape before xs >>= λ ys. Ok (shapes ys))
shapes_in_turn names Γ before [] = sym (ok_then [] (λ ys. Ok (shapes ys)))
shapes_in_turn names Γ before (x ∷ xs) =
    ap (λ (m : Answer Shapes). filled_shape names Γ before x >>= λ p. m >>= λ more. Ok (shape_and p more))
    (shapes_in_turn names Γ (behind_shape before x) xs)
    ∙ turned shapes shape_and (λ p ys. refl) (filled_shape names Γ before x)
    (in_turn (filled_shape names Γ) behind_shape (behind_shape before x) xs)

pub variables_of-shapes : (xs : List Shape) → variables_of (shapes xs) ≡ flat_map variables xs
variables_of-shapes [] = refl
variables_of-shapes (x ∷ xs) = ap (λ (l : List (List ℕ)). variables x ++ l) (variables_of-shapes xs)

pub behind_shapes : (before : List (List ℕ)) (xs : List Shape) →
    fold behind_shape before xs ≡ before ++ flat_map variables xs
behind_shapes before [] = sym (append-nil before)
behind_shapes before (x ∷ xs) =
    behind_shapes (behind_shape before x) xs ∙ append_assoc before (variables x) (flat_map variables xs)

-- a constructor's pattern, as the code has it
pub constructor_form : (p : Pattern) (k : Mark) (h : Named) (v : Vec Pattern Global) (s : Span)
    → p ≡ pattern.Constructor k h v s → shape_of p ≡ constructor k h (shapes (map shape_of v.items)) s
constructor_form p k h v s is = ap shape_of is ∙ constructor_view k h v s

-- its name and its patterns are found
pub constructor_found : (names : Names) (Γ before : List (List ℕ)) (k : Mark) (h g : Named) (xs ys : List Shape)
    (s : Span)
    → names [] h ≡ Ok g → in_turn (filled_shape names Γ) behind_shape before xs ≡ Ok ys
    → filled_shape names Γ before (constructor k h (shapes xs) s) ≡ Ok (constructor k g (shapes ys) s)
constructor_found names Γ before k h g xs ys s one other = simp (shapes_in_turn, one, other, ok_then)

-- all that looking up the parts of a pattern wants
pub ruleset shape_parts = (
  the_lemmas,
  common_steps,
  constructor_view,
  ok_then,
  err_then,
  in_turn-one_more,
  shapes_in_turn,
  variables_of-shapes,
  behind_shapes,
)
