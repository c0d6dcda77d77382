-- Worked examples of graphs.
use Rattle.std.specs.Prelude.{◌≡◌, ℕ, suc, List, [], ◌∷◌, Some, None, Ok, Err, codes}
use Rattle.qtt_base.specs.declared.place.Span.{Span}
use Rattle.qtt_syntax.specs.declared.module.Import.{Import}
use Rattle.qtt_graph.specs.Graph.{Name, Header, Graph}
use Rattle.qtt_graph.specs.Ring.{ring, ring_place}
use Rattle.qtt_graph.specs.Ranks.{ranks}

-- the imports stand on the lines from 2 on
abbrev pub at : ℕ → Span
at line = record { line = line; col = 1; len = 6 }

abbrev pub lines_from : ℕ → List Name → List Import
lines_from line [] = []
lines_from line (n ∷ ns) = record { name = n; span = at line } ∷ lines_from (suc line) ns

abbrev pub text : Name → List Name → Header
text n ns = record { name = n; imports = lines_from 2 ns }

abbrev pub A : Name
A = codes "A"

abbrev pub B : Name
B = codes "B"

abbrev pub C : Name
C = codes "C"

abbrev pub D : Name
D = codes "D"

abbrev pub M : Name
M = codes "Main"

-- A imports B, B imports C, C imports A
abbrev pub round : Graph
round = text A (B ∷ []) ∷ text B (C ∷ []) ∷ text C (A ∷ []) ∷ []

-- Main imports C and B; C imports A and D, D imports A: B and A have rank 0
abbrev pub tree : Graph
tree = text M (C ∷ B ∷ codes "Prim" ∷ []) ∷ text C (A ∷ D ∷ []) ∷ text B [] ∷ text A [] ∷ text D (A ∷ []) ∷ []

-- two rings, C and D, and A and B, where A imports C before B
abbrev pub two_rings : Graph
two_rings = text M (D ∷ A ∷ []) ∷ text D (C ∷ []) ∷ text A (C ∷ B ∷ []) ∷ text C (D ∷ []) ∷ text B (A ∷ []) ∷ []

-- from A two ways of three imports lead back, by D and by B, and one of five
abbrev pub several_ways : Graph
several_ways = text A (D ∷ B ∷ []) ∷ text D (M ∷ C ∷ []) ∷ text B (C ∷ []) ∷ text M (B ∷ []) ∷ text C (A ∷ []) ∷ []

abbrev pub itself : Graph
itself = text A (B ∷ A ∷ []) ∷ text B [] ∷ []

-- a module that only leads to a ring is not on it
abbrev pub leads_to_ring : Graph
leads_to_ring = text A (B ∷ []) ∷ text B (C ∷ []) ∷ text C (B ∷ []) ∷ []

pub record GraphRows : Type 0 where
  pub row_ring : ring round ≡ Some (A ∷ B ∷ C ∷ [])
  pub row_place : ring_place round (A ∷ B ∷ C ∷ []) ≡ Some (at 2)
  pub row_ranks : ranks round ≡ Err (A ∷ B ∷ C ∷ [])
  pub tree_ring : ring tree ≡ None
  pub tree_ranks : ranks tree ≡ Ok ((3 ∷ 2 ∷ []) ∷ (4 ∷ []) ∷ (1 ∷ []) ∷ (0 ∷ []) ∷ [])
  pub least_ring : ring two_rings ≡ Some (A ∷ B ∷ [])
  pub least_place : ring_place two_rings (A ∷ B ∷ []) ≡ Some (at 3)
  pub earlier_import : ring several_ways ≡ Some (A ∷ D ∷ C ∷ [])
  pub of_itself : ring itself ≡ Some (A ∷ [])
  pub of_itself_place : ring_place itself (A ∷ []) ≡ Some (at 3)
  pub not_on_it : ring leads_to_ring ≡ Some (B ∷ C ∷ [])
  pub one_module : ranks (text A [] ∷ []) ≡ Ok ((0 ∷ []) ∷ [])
