-- What the trees of generated modules import.
use Rattle.std.proofs.Common.{ℕ, zero, suc, ◌-◌, ◌<◌, ◌≤◌, List, [], ◌∷◌, ◌++◌, flat_map, sym, subst, arith}
use Rattle.std.proofs.lemmas.Grind.{flat_map-append}
use Rattle.qtt_syntax.specs.declared.module.Import.{Import}
use Rattle.qtt_syntax.specs.Tree.{Module}
use Rattle.qtt_gen.specs.Generated.{below, next, module_name, generated}
use Rattle.qtt_gen.specs.Canonical.{main_tree}
use Rattle.qtt_gen_laws.specs.Read.{trees_of, generated_trees}
use Rattle.qtt_graph.specs.Graph.{Name}
use Rattle.qtt_load.specs.Loading.{module_imports}
use Rattle.qtt_gen_load.proofs.Given.{HasName, module_there}

-- each import has such a name
abbrev pub AllImport : (Name → Type 0) → List Import → Type 0
AllImport P [] = Unit {0}
AllImport P (i ∷ is) = P i.name × AllImport P is

-- each import of each tree has such a name
abbrev pub TreesImport : (Name → Type 0) → List Module → Type 0
TreesImport P [] = Unit {0}
TreesImport P (t ∷ ts) = AllImport P (module_imports t) × TreesImport P ts

trees_append : (P : Name → Type 0) (ts us : List Module) → TreesImport P ts → TreesImport P us →
    TreesImport P (ts ++ us)
trees_append P [] us h k = k
trees_append P (t ∷ ts) us h k = (h.0, trees_append P ts us h.1 k)

next_below : (j : ℕ) → next j < 4
next_below j = omega arith

-- names of these modules and of those below are such names
module _ (P : Name → Type 0) (n : ℕ) (there : (i j : ℕ) → i < n → j < 4 → P (module_name i j)) where
  four_import : (i : ℕ) → i < n → TreesImport P (trees_of i)
  four_import zero h = (tt, (tt, (tt, (tt, tt))))
  four_import (suc i) h =
      let one : (j : ℕ) → P (module_name i (next j)) =
      λ j. there i (next j) (omega (arith, h)) (next_below j) in
      ((one 0, tt), ((one 1, tt), ((one 2, tt), ((one 3, tt), tt))))

  below_import : (m : ℕ) → m ≤ n → TreesImport P (flat_map trees_of (below m))
  below_import zero h = tt
  below_import (suc m) h =
      subst (TreesImport P) (sym (flat_map-append trees_of (below m) (m ∷ [])))
      (trees_append P (flat_map trees_of (below m)) (flat_map trees_of (m ∷ [])) (below_import m (omega (arith, h)))
      (trees_append P (trees_of m) [] (four_import m (omega (arith, h))) tt))

  main_import : (i : ℕ) → i < n → AllImport P (module_imports (main_tree i))
  main_import i h =
      let one : (j : ℕ) → j < 4 → P (module_name i j) = λ j k. there i j h k in
      (one 0 (omega arith), (one 1 (omega arith), (one 2 (omega arith), (one 3 (omega arith), tt))))

  all_import : 1 ≤ n → TreesImport P (generated_trees n)
  all_import h =
      trees_append P (flat_map trees_of (below n)) (main_tree (n - 1) ∷ []) (below_import n (omega arith))
      (main_import (n - 1) (omega (arith, h)), tt)

-- each module that a generated one imports is generated
pub imports_there : (n : ℕ) → 1 ≤ n → TreesImport (HasName (generated n)) (generated_trees n)
imports_there n h = all_import (HasName (generated n)) n (module_there n) h
