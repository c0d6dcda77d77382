-- What is planned is made by the relation.
use Rattle.std.specs.Prelude.{◌≡◌, ℕ, List, [], ◌∷◌, length, Option}
use Rattle.qtt_term.specs.Term.{Term, Terms, ε, ◌▸◌}
use Rattle.qtt_term.specs.Contraction.{Conv}
use Rattle.qtt_term.specs.Entries.{env}
use Rattle.qtt_split.specs.Tree.{Leaf, leaves}
use Rattle.qtt_split.specs.Motive.{pis}
use Rattle.qtt_split.specs.Split.{Group}
use Rattle.qtt_split.specs.Plan.{Opened, start, leaf_of, Planned, plan}
use Rattle.qtt_split.specs.Relation.{gives, Made}
use Rattle.qtt_split.specs.Laws.{AllWide, answers_within, answers}

-- what f gives at these leaves, before others
abbrev pub right_sides : (Leaf → Term) → List Leaf → Terms → Terms
right_sides f [] rest = rest
right_sides f (l ∷ ls) rest = f l ▸ right_sides f ls rest

-- of a definition of type A: the opened binders are its argument types up to conversion, each clause has a pattern for
-- each, and the tree is made, with whatever right sides at its leaves
pub record MadePlan (G : Group) (A : Term) (labels : List (Option (List ℕ))) (P : Planned) : Type 0 where
  pub opened : Opened
  pub is : P.opened ≡ opened.binders
  pub opens : Conv (env G.globals) A (pis opened.binders opened.goal)
  pub wide : AllWide (length opened.binders) G.clauses
  pub made : (f : Leaf → Term) →
      Made G.globals (gives (λ N r. f (leaf_of G N r))) (start G labels opened) P.tree
      (right_sides f (leaves P.tree) ε) ε

pub record PlansAreMade : Type 0 where
  pub within_budget : (G : Group) (A : Term) (labels : List (Option (List ℕ))) (n : ℕ) (P : Planned) →
      answers_within (env G.globals) n (plan G A labels) P → MadePlan G A labels P
  pub without : (G : Group) (A : Term) (labels : List (Option (List ℕ))) (P : Planned) →
      answers (env G.globals) (plan G A labels) P → MadePlan G A labels P
