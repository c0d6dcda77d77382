-- Places by their ranks.
use Rattle.std.specs.Prelude.{◌≡◌, ◌<◌, ◌==◌, ℕ, zero, suc, Bool, false, List, [], ◌∷◌, filter, length, Option, None}
use Rattle.std.specs.List.{slice_index_or}
use Rattle.std.specs.Option.{option_map_or}
use Rattle.qtt_graph.specs.Graph.{Graph}
use Rattle.qtt_graph.specs.Ranks.{rank}
use Rattle.qtt_graph.specs.Modules.{name_at}

-- of each module its rank, or nothing where it has none
pub record AreRanks (g : Graph) (ranks : List (Option ℕ)) : Type 0 where
  pub all : length ranks ≡ length g
  pub each : (i : ℕ) (d : Option ℕ) → i < length g → rank g (name_at g i) ≡ slice_index_or ranks i d

abbrev pub has : List (Option ℕ) → ℕ → ℕ → Bool
has ranks r p = option_map_or (λ n. n == r) (slice_index_or ranks p None) false

-- the places of the ranks from r on, n of them
abbrev pub levels : List (Option ℕ) → List ℕ → ℕ → ℕ → List (List ℕ)
levels ranks ps r zero = []
levels ranks ps r (suc n) = filter (has ranks r) ps ∷ levels ranks ps (suc r) n
