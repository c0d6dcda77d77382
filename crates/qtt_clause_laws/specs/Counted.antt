-- How many ends a case tree has.
use Rattle.std.specs.Prelude.{ℕ, ◌+◌, ◌≤◌, List, Option}
use Rattle.qtt_term.specs.Term.{Term}
use Rattle.qtt_term.specs.Entries.{env}
use Rattle.qtt_split.specs.Tree.{Tree, Branches}
use Rattle.qtt_split.specs.Split.{Group}
use Rattle.qtt_split.specs.Plan.{Planned, plan}
use Rattle.qtt_split.specs.Laws.{answers_within, answers}

-- clauses that decide, constructors that clash, and places where no clause is left
abbrev mutual
  pub end_count : Tree → ℕ
  end_count (Tree.leaf l) = 1
  end_count (Tree.split s bs) = end_counts bs
  end_count (Tree.delete d again T) = end_count T
  end_count (Tree.absurd A) = 1
  end_count (Tree.missing A ps) = 1

  pub end_counts : Branches → ℕ
  end_counts Branches.no_branch = 0
  end_counts (Branches.branch_and n again T bs) = end_count T + end_counts bs

-- what is planned has no more ends than the limit says
pub record PlansAreWithinLimit : Type 0 where
  pub within_budget : (G : Group) (A : Term) (labels : List (Option (List ℕ))) (n : ℕ) (P : Planned) →
      answers_within (env G.globals) n (plan G A labels) P → end_count P.tree ≤ G.limit
  pub without : (G : Group) (A : Term) (labels : List (Option (List ℕ))) (P : Planned) →
      answers (env G.globals) (plan G A labels) P → end_count P.tree ≤ G.limit
