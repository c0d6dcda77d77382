-- Where a case tree ends, and what the code's grown trees stand for.
use Rattle.std.specs.Prelude.{ℕ}
use Rattle.qtt_term.specs.Ask.{Ask, ◌>>=◌}
use Rattle.qtt_rules.specs.Asks.{Asks}
use Rattle.qtt_split.specs.declared.ends.Grown as code
use Rattle.qtt_split.specs.Node.{Node, Row}
use Rattle.qtt_split.specs.Plan.{leaf_of}
use Rattle.qtt_split.specs.Seen.{pattern_list}
use Rattle.qtt_split.specs.Split.{Group, Grown, grown, count_leaf}
use Rattle.qtt_split.specs.Tree.{Tree}
use Rattle.qtt_split.specs.View.{tree_of}

abbrev pub grown_of : code.Grown → Grown
grown_of g = grown (tree_of g.tree) g.left

-- at the leaf of a clause
abbrev pub leaf_grown : Group → Node → Row → ℕ → Asks Grown
leaf_grown G N r left = do
  less ← count_leaf G left
  Ask.done (grown (Tree.leaf (leaf_of G N r)) less)

-- where no clause is left
abbrev pub none_grown : Group → Node → ℕ → Asks Grown
none_grown G N left = do
  less ← count_leaf G left
  Ask.done (grown (Tree.missing N.goal (pattern_list G.globals G.first N.seen)) less)
