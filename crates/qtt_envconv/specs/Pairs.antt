-- What the comparison of one pair leads to.
use Rattle.std.specs.Prelude.{◌≡◌, ℕ, ◌-◌, ◌<◌, ◌≤◌, List, ◌∷◌, ◌++◌, length, true, false}
use Rattle.qtt_term.specs.Term.{Term}
use Rattle.qtt_term.specs.Signature.{Env}
use Rattle.qtt_term.specs.Question.{same_outline, Item, beside, Answer, weight, weights, within_count}
use Rattle.qtt_term.specs.View.{side_by_side}
use Rattle.qtt_confluence.specs.Heads.{parts}
use Rattle.qtt_envconv.specs.declared.node.Node as node_code
use Rattle.qtt_envconv.specs.declared.pair.Outcome.{Outcome}
use Rattle.qtt_envconv.specs.declared.pair.Outcome.TheVariants as outcome
use Rattle.qtt_envconv.specs.Nodes.{nodes, AreReady}

-- two terms that are still to be tested
abbrev pub pair : List ℕ → Term → Term → Item
pair path t u = record { tested = false; path = path; left = t; right = u }

-- components that are compared after so many contractions, of which the left ones are lighter than t if none was
-- made
pub record SplitsInto (E : Env) (n : ℕ) (t u : Term) (made : ℕ) (ls rs : List node_code.Node) : Type 0 where
  pub within : made ≤ n
  pub goes_on : (path : List ℕ) (is : List Item) →
      within_count E n (pair path t u ∷ is) ≡ within_count E (n - made)
      (beside path 0 (side_by_side (nodes ls)) (side_by_side (nodes rs)) ++ is)
  pub as_many : length ls ≡ length rs
  pub lighter : made ≡ 0 → weights (side_by_side (nodes ls)) < weight t
  pub left_ready : AreReady E ls
  pub right_ready : AreReady E rs

-- whatever else is still to be compared
abbrev pub LeadsTo : Env → ℕ → Term → Term → Outcome → Type 0
LeadsTo E n t u outcome.Same =
    (path : List ℕ) (is : List Item) → within_count E n (pair path t u ∷ is) ≡ within_count E n is
LeadsTo E n t u (outcome.Splits made ls rs) = SplitsInto E n t u made ls.items rs.items
LeadsTo E n t u outcome.Differs =
    (path : List ℕ) (is : List Item) → within_count E n (pair path t u ∷ is) ≡ Answer.different path
LeadsTo E n t u outcome.Spent = (path : List ℕ) (is : List Item) → within_count E n (pair path t u ∷ is) ≡ Answer.spent

-- of two heads, after so many contractions
abbrev pub HeadsLeadTo : Env → ℕ → Term → Term → Outcome → Type 0
HeadsLeadTo E made h g outcome.Same = ⊥
HeadsLeadTo E made h g (outcome.Splits more ls rs) =
    (same_outline h g ≡ true) × (more ≡ made) × (side_by_side (nodes ls.items) ≡ parts h) ×
    (side_by_side (nodes rs.items) ≡ parts g) × AreReady E ls.items × AreReady E rs.items
HeadsLeadTo E made h g outcome.Differs = same_outline h g ≡ false
HeadsLeadTo E made h g outcome.Spent = ⊥
