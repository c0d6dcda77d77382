-- The free variables of the components that lists make.
use Rattle.std.proofs.Common.{◌≡◌, ℕ, ◌-◌, max, List, [], ◌∷◌, ◌++◌, map, length, arith}
use Rattle.std.proofs.lemmas.Grind.{common_steps}
use Rattle.std.proofs.lemmas.List.{length-map}
use Rattle.qtt_term.specs.declared.term.Term.{the_lemmas}
use Rattle.qtt_term.specs.Term.{zeros, Term, Terms, ε, ◌▸◌, ◌+++◌}
use Rattle.qtt_term.specs.Substitution.{reach, reaches}
use Rattle.qtt_term.specs.View.{side_by_side}

-- one more component
more : (t a b c : ℕ) → a ≡ max b c → max t a ≡ max (max t b) c
more t a b c e = omega arith

pub reaches_joined : (ts ss : Terms) → reaches [] (ts +++ ss) ≡ max (reaches [] ts) (reaches [] ss)
reaches_joined ε ss = omega arith
reaches_joined (t ▸ ts) ss =
    more (reach t - 0) (reaches [] (ts +++ ss)) (reaches [] ts) (reaches [] ss) (reaches_joined ts ss)

pub reaches_appended : (ts ss : List Term) →
    reaches [] (side_by_side (ts ++ ss)) ≡ max (reaches [] (side_by_side ts)) (reaches [] (side_by_side ss))
reaches_appended [] ss = omega arith
reaches_appended (t ∷ ts) ss =
    more (reach t - 0) (reaches [] (side_by_side (ts ++ ss))) (reaches [] (side_by_side ts))
    (reaches [] (side_by_side ss)) (reaches_appended ts ss)

pub reaches_behind : (ts : List Term) (ns : List ℕ) (ss : Terms) →
    reaches (zeros (length ts) ns) (side_by_side ts +++ ss) ≡ max (reaches [] (side_by_side ts)) (reaches ns ss)
reaches_behind [] ns ss = omega arith
reaches_behind (t ∷ ts) ns ss =
    more (reach t - 0) (reaches (zeros (length ts) ns) (side_by_side ts +++ ss)) (reaches [] (side_by_side ts))
    (reaches ns ss) (reaches_behind ts ns ss)

-- the reach of branches with the numbers of their binders
abbrev of_branches : List (ℕ × Term) → ℕ
of_branches bs = reaches (map (λ b. b.0) bs) (side_by_side (map (λ b. b.1) bs))

pub reaches_branches : (bs : List (ℕ × Term)) (ss : Terms) →
    reaches (map (λ b. b.0) bs) (side_by_side (map (λ b. b.1) bs) +++ ss) ≡
    max (reaches (map (λ b. b.0) bs) (side_by_side (map (λ b. b.1) bs))) (reaches [] ss)
reaches_branches [] ss = omega arith
reaches_branches (b ∷ bs) ss =
    more (reach b.1 - b.0) (reaches (map (λ c. c.0) bs) (side_by_side (map (λ c. c.1) bs) +++ ss))
    (of_branches bs) (reaches [] ss) (reaches_branches bs ss)

pub branches_appended : (bs cs : List (ℕ × Term)) →
    reaches (map (λ b. b.0) (bs ++ cs)) (side_by_side (map (λ b. b.1) (bs ++ cs))) ≡
    max (reaches (map (λ b. b.0) bs) (side_by_side (map (λ b. b.1) bs)))
    (reaches (map (λ b. b.0) cs) (side_by_side (map (λ b. b.1) cs)))
branches_appended [] cs = omega arith
branches_appended (b ∷ bs) cs =
    more (reach b.1 - b.0) (of_branches (bs ++ cs)) (of_branches bs) (of_branches cs) (branches_appended bs cs)

-- all that a function which looks for free variables wants
pub ruleset reached = (
  the_lemmas,
  common_steps,
  length-map,
  reaches_joined,
  reaches_appended,
  reaches_behind,
  reaches_branches,
  branches_appended,
)
