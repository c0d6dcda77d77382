-- The laws of loading.
use Rattle.std.specs.Prelude.{◌≡◌, ◌≤◌, ◌⊎◌, IsTrue, List, ◌∷◌, map, length, Ok, Some}
use Rattle.std.specs.Option.{IsSome}
use Rattle.qtt_base.specs.Limits.{standard}
use Rattle.qtt_syntax.specs.Tree.{Module}
use Rattle.qtt_graph.specs.Graph.{Name, Graph, header_of, names, is_among, is_whole}
use Rattle.qtt_graph.specs.Ring.{Leads, ring}
use Rattle.qtt_load.specs.Reading.{Reading, Texts, read_in}
use Rattle.qtt_load.specs.Loading.{module_name, loaded}
use Rattle.qtt_load.specs.Order.{ring_refusal}

-- what is read has the name that was asked for
abbrev pub ReadsAsNamed : (Name → Reading Module) → Type 0
ReadsAsNamed read = (a : Name) (m : Module) → read a ≡ Ok m → module_name m ≡ a

-- The named module stands first, no two have one name, and each import but Prim is one of them; no other is there
-- than those to which imports lead from the named one, and they are few enough.
pub record IsBuild (root : Name) (ms : List Module) : Type 0 where
  pub first : (more : List Name) × (names (map header_of ms) ≡ root ∷ more)
  pub whole : IsTrue (is_whole (map header_of ms))
  pub reached : (a : Name) → IsTrue (is_among (names (map header_of ms)) a) →
      (a ≡ root) ⊎ Leads (map header_of ms) root a
  pub few : length ms ≤ standard.modules

-- what is loaded is a build
pub record LoadedAreBuilds : Type 0 where
  pub as_named : (texts : Texts) → ReadsAsNamed (read_in texts)
  pub builds : (read : Name → Reading Module) (root : Name) (ms : List Module) → ReadsAsNamed read →
      loaded read root ≡ Ok ms → IsBuild root ms

-- each ring that is told has its place
abbrev pub RingsHavePlaces : Type 0
RingsHavePlaces = (g : Graph) (way : List Name) → ring g ≡ Some way → IsSome (ring_refusal g way)
