-- The modules of a build by their places in the list of texts.
use Rattle.std.specs.Prelude.{◌≡◌, ◌<◌, ◌==◌, ℕ, Bool, IsTrue, length, if◌then◌else◌, List, [], ◌∷◌, map, Option, Some, None}
use Rattle.std.specs.List.{AllByRecursion, list_any, slice_index_or}
use Rattle.qtt_syntax.specs.declared.module.ModuleText.{ModuleText}
use Rattle.qtt_syntax.specs.View.{module_of}
use Rattle.qtt_syntax.specs.declared.module.Import.{Import}
use Rattle.qtt_graph.specs.Ranks.{place_among, place}
use Rattle.qtt_graph.specs.Graph.{Name, Header, Graph, counts, header_of, names, in_byte_order, below, is_among}

abbrev pub graph_of : List ModuleText → Graph
graph_of ts = map (λ t. header_of (module_of t)) ts

abbrev pub put_found : Option ℕ → List ℕ → List ℕ
put_found None more = more
put_found (Some p) more = p ∷ more

-- the place of an import among these names
abbrev pub place_imported : List Name → Import → Option ℕ
place_imported ns i = if counts i then place_among ns i.name else None

-- those of imports, in text order
abbrev pub places_imported : List Name → List Import → List ℕ
places_imported ns [] = []
places_imported ns (i ∷ more) = put_found (place_imported ns i) (places_imported ns more)

-- for each module, the places of those that it imports
abbrev pub rows_of : Graph → List (List ℕ)
rows_of g = map (λ (h : Header). places_imported (names g) h.imports) g

-- the places of all modules, in byte order of their names
abbrev pub order_of : Graph → List ℕ
order_of g = map (place g) (in_byte_order (names g))

-- the name of the module at a place
abbrev pub name_at : Graph → ℕ → Name
name_at g i = slice_index_or (names g) i []

-- the places of modules with these names
pub record ArePlaces (g : Graph) (row : List ℕ) (bs : List Name) : Type 0 where
  pub named : map (name_at g) row ≡ bs
  pub within : AllByRecursion (λ p. p < length g) row

-- ---- importers
-- a place is one of a row
abbrev pub has_place : List ℕ → ℕ → Bool
has_place row p = list_any (λ q. p == q) row

-- each place in a row is below n
abbrev pub IsWithin : ℕ → List ℕ → Type 0
IsWithin n row = (p : ℕ) → IsTrue (has_place row p) → p < n

-- each place in a row has a row of its own
abbrev pub AreWithin : List (List ℕ) → Type 0
AreWithin rows = (i : ℕ) → IsWithin (length rows) (slice_index_or rows i [])

-- each place has in its row the places of those that have it in theirs
pub record AreTurned (rows turned : List (List ℕ)) : Type 0 where
  pub all : length turned ≡ length rows
  pub each : (p i : ℕ) → p < length rows → has_place (slice_index_or turned p []) i ≡ has_place
      (slice_index_or rows i []) p

-- the places of the modules that import the one at place p
pub record AreImporters (g : Graph) (p : ℕ) (row : List ℕ) : Type 0 where
  pub within : IsWithin (length g) row
  pub each : (i : ℕ) → i < length g → has_place row i ≡ is_among (below g (name_at g i)) (name_at g p)
