-- Ranks that are known while imports are followed.
use Rattle.std.specs.Prelude.{◌≡◌, ◌<◌, ◌⊎◌, ℕ, List, length, Option, Some, None, is_none}
use Rattle.std.specs.List.{count_by, slice_index_or}
use Rattle.qtt_graph.specs.Graph.{Graph}
use Rattle.qtt_graph.specs.Modules.{name_at}
use Rattle.qtt_graph.specs.Ranks.{rank}
use Rattle.qtt_graph.specs.Ring.{Leads}

-- of each module that was come to its rank, or that it has none: but for those in P, of which this may be unknown
pub record Known (g : Graph) (P : ℕ → Type 0) (known : List (Option (Option ℕ))) : Type 0 where
  pub all : length known ≡ length g
  pub ranks : (i r : ℕ) → i < length g → slice_index_or known i None ≡ Some (Some r) → rank g (name_at g i) ≡ Some r
  pub without : (i : ℕ) → i < length g → slice_index_or known i None ≡ Some None → (rank g (name_at g i) ≡ None) ⊎ P i

-- a module's imports lead to the one at place p
abbrev pub LeadsOn : Graph → ℕ → ℕ → Type 0
LeadsOn g p i = Leads g (name_at g i) (name_at g p)

-- a module was come to, and no rank is known of it
abbrev pub HasNone : List (Option (Option ℕ)) → ℕ → Type 0
HasNone known i = slice_index_or known i None ≡ Some None

-- how many modules were not come to
abbrev pub unvisited : List (Option (Option ℕ)) → ℕ
unvisited known = count_by (λ o. is_none o) known
