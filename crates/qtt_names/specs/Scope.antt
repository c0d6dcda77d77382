-- What stands in a scope: the module's own items, and what it imports.
use Rattle.std.specs.Prelude.{ℕ, suc, Bool, true, false, cond, is_some, nat_eq, List, [], ◌∷◌, ◌++◌, map, Option}
use Rattle.std.specs.List.{flat_map}
use Rattle.std.specs.Map.{lookup}
use Rattle.std.specs.Cmp.Lexicographic.{pointwise}
use Rattle.qtt_base.specs.declared.place.GlobalId.{GlobalId}
use Rattle.qtt_base.specs.declared.place.ModuleId.{ModuleId}
use Rattle.qtt_names.specs.declared.scope.OwnItem.{OwnItem}
use Rattle.qtt_syntax.specs.Tree.{Con, Item, Module}
use Rattle.qtt_syntax.specs.Tree.Con.{con}
use Rattle.qtt_syntax.specs.Tree.Item.{family, signature, clause}
use Rattle.qtt_syntax.specs.Tree.Module.{module_text}

-- two names are the same where their bytes are
abbrev pub same_name : List ℕ → List ℕ → Bool
same_name = pointwise nat_eq

-- a module that is imported: its name, and its items by their names
pub record Imported : Type 0 where
  pub name : List ℕ
  pub items : List (List ℕ × GlobalId)

-- the module whose names are looked up: its number, its name, its own items by their names, and what it imports
pub record Scope : Type 0 where
  pub home : ModuleId
  pub name : List ℕ
  pub own : List (List ℕ × OwnItem)
  pub imports : List Imported

-- what a name stands for in a list of names, where the first one counts
abbrev pub entry_of : {A : Type 0} → List ℕ → List (List ℕ × A) → Option A
entry_of n = lookup (same_name n)

abbrev pub constructor_name : Con → List ℕ × Bool
constructor_name (con n t s) = (n, false)

-- the names that an item declares, each with whether it is that of a definition: a family and then its
-- constructors, or a definition at its signature
abbrev pub declared : Item → List (List ℕ × Bool)
declared (family n ns ps t cs s) = (n, false) ∷ map constructor_name cs
declared (signature p m n ns t s) = (n, true) ∷ []
declared (clause n ps side s) = []

abbrev pub declared_in : Module → List (List ℕ × Bool)
declared_in (module_text h n ns is items) = flat_map declared items

-- a name is added behind those that are known, unless it is one of them
abbrev pub with_item : List (List ℕ × OwnItem) → List ℕ → OwnItem → List (List ℕ × OwnItem)
with_item known n item = cond (is_some (entry_of n known)) known (known ++ (n, item) ∷ [])

-- the names added with their numbers, from k on
abbrev pub with_items : List (List ℕ × OwnItem) → ℕ → List (List ℕ × Bool) → List (List ℕ × OwnItem)
with_items known k [] = known
with_items known k (d ∷ more) =
    with_items (with_item known d.0 (record { number = k; is_definition = d.1 })) (suc k) more

-- The own items of a text: they are numbered from 0 in text order, and of two with one name the first is kept.
abbrev pub own_items : Module → List (List ℕ × OwnItem)
own_items m = with_items [] 0 (declared_in m)

abbrev pub module_name : Module → List ℕ
module_name (module_text h n ns is items) = n
