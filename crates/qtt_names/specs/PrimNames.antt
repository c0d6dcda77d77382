-- The names of the module Prim.
use Rattle.std.specs.Prelude.{ℕ, suc, List, [], ◌∷◌, codes}
use Rattle.std.specs.Borrow.{Bor}
use Rattle.indexmap.specs.IndexMap.{insert_entry}
use Rattle.qtt_base.specs.declared.place.GlobalId.{GlobalId}
use Rattle.qtt_base.specs.declared.place.ModuleId.{ModuleId}
use Rattle.qtt_syntax.specs.Tree.{Module}
use Rattle.qtt_names.specs.Scope.{Imported, Scope, same_name, own_items, module_name}

-- the names in the order of their numbers
abbrev pub prim_names : List (List ℕ)
prim_names =
    codes "Int" ∷ codes "String" ∷ codes "Handle" ∷ codes "Unit" ∷ codes "Bool" ∷ codes "Line" ∷ codes "IO" ∷
    codes "IO1"
    ∷ codes "MkUnit" ∷ codes "False" ∷ codes "True" ∷ codes "Eof" ∷ codes "Got" ∷ codes "Eq" ∷ codes "Refl"
    ∷ codes "addInt" ∷ codes "subInt" ∷ codes "mulInt" ∷ codes "divInt" ∷ codes "modInt" ∷ codes "eqInt" ∷ codes "ltInt"
    ∷ codes "appendString" ∷ codes "eqString" ∷ codes "showInt"
    ∷ codes "pure" ∷ codes "pure1" ∷ codes "putLine" ∷ codes "getLine" ∷ codes "open" ∷ codes "write" ∷
    codes "close" ∷ []

-- Prim is module 0
abbrev pub prim_id : ℕ → GlobalId
prim_id n = record { «module» = record { 0 = 0 }; item = n }

-- names numbered from n on
abbrev pub numbered : ℕ → List (List ℕ) → List (List ℕ × GlobalId)
numbered n [] = []
numbered n (name ∷ more) = (name, prim_id n) ∷ numbered (suc n) more

abbrev pub prim_items : List (List ℕ × GlobalId)
prim_items = numbered 0 prim_names

abbrev pub prim_name : List ℕ
prim_name = codes "Prim"

-- names put behind others in a map, numbered from k on
abbrev pub with_names : List (List ℕ × GlobalId) → ℕ → List (Bor (List ℕ)) → List (List ℕ × GlobalId)
with_names known k [] = known
with_names known k (n ∷ more) = with_names (insert_entry same_name known n.now (prim_id k)) (suc k) more

abbrev pub prim_import : Imported
prim_import = record { name = prim_name; items = prim_items }

-- The scope of a text: Prim is one of its imports.
abbrev pub scope_of : ModuleId → Module → List Imported → Scope
scope_of home m imports =
    record { home = home; name = module_name m; own = own_items m; imports = prim_import ∷ imports }
