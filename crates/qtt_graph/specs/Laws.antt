-- The laws of ranks and rings.
use Rattle.std.specs.Prelude.{◌≡◌, ◌↔◌, ◌<◌, ℕ, suc, IsTrue, None, Some}
use Rattle.qtt_graph.specs.Graph.{Name, Graph, is_among, names}
use Rattle.qtt_graph.specs.Ring.{Imports, Leads, ring}
use Rattle.qtt_graph.specs.Ranks.{rank}

-- each import is one of the modules
abbrev pub Closed : Graph → Type 0
Closed g = (a b : Name) → Imports g a b → IsTrue (is_among (names g) b)

-- there is no ring exactly where no module leads back to itself
abbrev pub RingsAreTold : Type 0
RingsAreTold = (g : Graph) → (ring g ≡ None) ↔ ((a : Name) → Leads g a a → ⊥)

-- the rank of a module is above that of each module that it imports, and one above that of one of them or 0
pub record IsRank (g : Graph) (a : Name) (r : ℕ) : Type 0 where
  pub above : (b : Name) → Imports g a b → (s : ℕ) × (rank g b ≡ Some s) × (s < r)
  pub reached : (s : ℕ) → r ≡ suc s → (b : Name) × Imports g a b × (rank g b ≡ Some s)

-- without a ring each module has a rank
abbrev pub RanksAreAbove : Type 0
RanksAreAbove = (g : Graph) → Closed g → ring g ≡ None → (a : Name) → IsTrue (is_among (names g) a) →
    (r : ℕ) × (rank g a ≡ Some r) × IsRank g a r
