-- Pairs of terms that are still to be tested.
use Rattle.std.specs.Prelude.{◌≡◌, ◌↔◌, ℕ, ◌+◌, ◌<◌, List, [], ◌∷◌, Bool, true, false}
use Rattle.qtt_term.specs.Term.{Term}
use Rattle.qtt_term.specs.Question.{weight}
use Rattle.qtt_envconv.specs.declared.sameness.Twins.{Twins}
use Rattle.qtt_envconv.specs.Nodes.{node}

-- both terms of each pair are the same
abbrev pub AreAlike : List Twins → Type 0
AreAlike [] = Unit {0}
AreAlike (p ∷ ps) = (node p.left ≡ node p.right) × AreAlike ps

abbrev pub left_weight : List Twins → ℕ
left_weight [] = 0
left_weight (p ∷ ps) = weight (node p.left) + left_weight ps

-- what two terms that join other pairs leave: pairs that are alike where the two terms are the same and the others
-- are alike, and that are lighter; or that the two differ
abbrev pub Joins : Term → Term → List Twins → List Twins → Bool → Type 0
Joins t u old new true =
    (AreAlike new ↔ ((t ≡ u) × AreAlike old)) × (left_weight new < weight t + left_weight old)
Joins t u old new false = t ≡ u → ⊥
