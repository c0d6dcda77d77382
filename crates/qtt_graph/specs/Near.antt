-- How near modules are to one that their imports lead to.
use Rattle.std.specs.Prelude.{◌≡◌, ◌<◌, ◌≤◌, ◌==◌, ◌&&◌, if◌then◌else◌, ℕ, zero, suc, IsTrue, Bool, false, List, length, Option, Some, None, is_some, is_none, find}
use Rattle.std.specs.List.{list_any, slice_index_or}
use Rattle.qtt_graph.specs.Graph.{Name, Graph, below, is_among}
use Rattle.qtt_graph.specs.Ring.{ways, first_of}
use Rattle.qtt_graph.specs.Modules.{name_at, ArePlaces, has_place, IsWithin}

-- a way of n + 1 imports leads from one module to another
abbrev pub HasWay : Graph → ℕ → Name → Name → Type 0
HasWay g n a b = IsTrue (is_some (first_of (ways g n a b)))

-- of each module the imports beyond one of its shortest way to b, where they are fewer than n
pub record Near (g : Graph) (b : Name) (n : ℕ) (near : List (Option ℕ)) : Type 0 where
  pub all : length near ≡ length g
  pub there : (i k : ℕ) (o : Option ℕ) → i < length g → slice_index_or near i o ≡ Some k →
      HasWay g k (name_at g i) b × (k < n)
  pub least : (i k : ℕ) (o : Option ℕ) → i < length g → k < n → HasWay g k (name_at g i) b →
      (j : ℕ) × (j ≤ k) × (slice_index_or near i o ≡ Some j)

-- a module imports one of those at the places of a row
abbrev pub imports_one : Graph → List ℕ → ℕ → Bool
imports_one g row i = list_any (λ p. is_among (below g (name_at g i)) (name_at g p)) row

-- those that pass the test and are not noted yet
abbrev pub is_next : (ℕ → Bool) → List (Option ℕ) → ℕ → Bool
is_next test near i = is_none (slice_index_or near i None) && test i

-- for each of these n is noted, and `next` has their places
pub record Widened (test : ℕ → Bool) (n : ℕ) (near near' : List (Option ℕ)) (next : List ℕ) : Type 0 where
  pub all : length near' ≡ length near
  pub noted : (i : ℕ) → i < length near → slice_index_or near' i None ≡
      (if is_next test near i then Some n else slice_index_or near i None)
  pub within : IsWithin (length near) next
  pub each : (i : ℕ) → i < length near → has_place next i ≡ is_next test near i

abbrev pub is_at : ℕ → Option ℕ → Bool
is_at k None = false
is_at k (Some j) = j == k

-- a way of n + 1 imports to the module at place t goes on from the one at place p, where it is a shortest one
abbrev pub goes_on_from : List (Option ℕ) → ℕ → ℕ → ℕ → Bool
goes_on_from near t zero p = p == t
goes_on_from near t (suc n) p = is_at n (slice_index_or near p None)

-- the first import of the module at place p from which such a way goes on
abbrev pub Stepped : Graph → List (Option ℕ) → ℕ → ℕ → ℕ → Option ℕ → Type 0
Stepped g near t n p found =
    (row : List ℕ) × ArePlaces g row (below g (name_at g p)) × (found ≡ find (goes_on_from near t n) row)

abbrev pub IsAt : List (Option ℕ) → ℕ → ℕ → Type 0
IsAt near i k = slice_index_or near i None ≡ Some k

-- the first way of n + 1 imports from the module at place p to that at place t
abbrev pub IsFirstWay : Graph → ℕ → ℕ → ℕ → List Name → Type 0
IsFirstWay g n p t way = first_of (ways g n (name_at g p) (name_at g t)) ≡ Some way
