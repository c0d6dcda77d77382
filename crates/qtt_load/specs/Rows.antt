-- Worked examples of loading, and of what is told where it stops.
use Rattle.std.specs.Prelude.{◌≡◌, ℕ, List, [], ◌∷◌, map, find, codes, Option, Some, None, option_map, Result, Ok, Err}
use Rattle.qtt_syntax.specs.Tree.{Module}
use Rattle.qtt_syntax.specs.Tree.Module.{module_text}
use Rattle.qtt_graph.specs.Graph.{Name, Graph, same_name, header_of}
use Rattle.qtt_graph.specs.Rows.{at, lines_from, A, B, C, D, M}
use Rattle.qtt_diag.specs.Kept.{Detail}
use Rattle.qtt_diag.specs.Messages.{message}
use Rattle.qtt_load.specs.Reading.{Why, Reading, wrong_name, has_name}
use Rattle.qtt_load.specs.Loading.{Stop, refusal, not_read, too_many, module_name, load, loaded}
use Rattle.qtt_load.specs.Order.{ring_refusal}

-- a module of these imports, which stand on the lines from 2 on, without items
abbrev pub text : Name → List Name → Module
text n ns = module_text (at 1) n (at 1) (lines_from 2 ns) []

-- A imports B, B imports C, C imports A
abbrev pub round : List Module
round = text A (B ∷ []) ∷ text B (C ∷ []) ∷ text C (A ∷ []) ∷ []

-- Main imports C, B, Prim and C once more; C imports A and D, D imports A
abbrev pub tree : List Module
tree = text M (C ∷ B ∷ codes "Prim" ∷ C ∷ []) ∷ text C (A ∷ D ∷ []) ∷ text B [] ∷ text A [] ∷ text D (A ∷ []) ∷ []

abbrev pub found : Option Module → Reading Module
found None = Err Why.absent
found (Some m) = Ok m

-- these modules are there, and no others
abbrev pub stored : List Module → Name → Reading Module
stored ms a = found (find (λ m. same_name (module_name m) a) ms)

abbrev pub read_names : Result (List Module) Stop → Result (List Name) Stop
read_names (Ok ms) = Ok (map module_name ms)
read_names (Err s) = Err s

-- these as their imports are followed
abbrev pub graph_of_round : Graph
graph_of_round = map header_of round

-- the line of a refusal
abbrev pub line : Stop → List ℕ
line (Stop.absent a) = []
line (Stop.refused r s) = message s

pub record LoadingRows : Type 0 where
  -- Main, then C and B, then what C mentions; neither Prim nor C once more
  pub breadth_first : read_names (load M (stored tree) 10 (M ∷ []) (M ∷ [])) ≡ Ok (M ∷ C ∷ B ∷ A ∷ D ∷ [])
  pub from_c : read_names (load C (stored tree) 10 (C ∷ []) (C ∷ [])) ≡ Ok (C ∷ A ∷ D ∷ [])
  pub ring_ends : read_names (load B (stored round) 10 (B ∷ []) (B ∷ [])) ≡ Ok (B ∷ C ∷ A ∷ [])
  pub not_there : read_names (load A (stored (text A (B ∷ C ∷ []) ∷ text B (D ∷ []) ∷ [])) 10 (A ∷ []) (A ∷ []))
      ≡ Err (Stop.absent C)
  -- in place of one reading too many, before it is known whether the module is there
  pub fits : read_names (load M (stored tree) 5 (M ∷ []) (M ∷ [])) ≡ Ok (M ∷ C ∷ B ∷ A ∷ D ∷ [])
  pub one_too_many : read_names (load M (stored tree) 4 (M ∷ []) (M ∷ [])) ≡ Err (too_many M)
  pub none_left : read_names (load M (stored (text M (C ∷ []) ∷ [])) 1 (M ∷ []) (M ∷ [])) ≡ Err (too_many M)
  pub standard_limit : read_names (loaded (stored round) A) ≡ Ok (A ∷ B ∷ C ∷ [])

pub record RefusalRows : Type 0 where
  pub another_name : has_name M (text D []) ≡ Err (wrong_name M D (at 1))
  pub no_prim : has_name (codes "Prim") (text (codes "Prim") []) ≡ Err (wrong_name (codes "Prim") (codes "Prim") (at 1))
  pub ring : ring_refusal graph_of_round (A ∷ B ∷ C ∷ []) ≡ Some (refusal A (at 2) (Detail.cycle (A ∷ B ∷ C ∷ [])))
  pub ring_line : option_map message (ring_refusal graph_of_round (A ∷ B ∷ C ∷ []))
      ≡ Some (codes "A:2:1: 33 Cycle A B C")
  pub limit_line : line (too_many M) ≡ codes "Main:1:1: 31 Limit modules of a build 1001"
  pub name_line : line (not_read M (wrong_name M D (at 1)))
      ≡ codes "Main:1:1: 32 WrongModuleName expected Main found D"
