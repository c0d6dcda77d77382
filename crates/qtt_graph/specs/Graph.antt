-- Modules by their names, and what they import.
use Rattle.std.specs.Prelude.{ℕ, nat_eq, Bool, true, not, ◌&&◌, if◌then◌else◌, List, [], ◌∷◌, map, find, filter, Option, Some, None, codes}
use Rattle.std.specs.List.{list_any, list_all}
use Rattle.std.specs.Ordering.{nat_cmp, is_le}
use Rattle.std.specs.Cmp.Lexicographic.{pointwise, slice_cmp}
use Rattle.qtt_syntax.specs.declared.module.Import.{Import}
use Rattle.qtt_syntax.specs.Tree.{Module}
use Rattle.qtt_syntax.specs.Tree.Module.{module_text}

abbrev pub Name : Type 0
Name = List ℕ

-- two names are the same where their bytes are
abbrev pub same_name : Name → Name → Bool
same_name = pointwise nat_eq

abbrev pub is_among : List Name → Name → Bool
is_among ns n = list_any (same_name n) ns

-- a module as its imports are followed: its name, and its imports with their places in text order
pub record Header : Type 0 where
  pub name : Name
  pub imports : List Import

abbrev pub header_of : Module → Header
header_of (module_text h n ns is items) = record { name = n; imports = is }

-- in the order in which the modules were read; their names differ
abbrev pub Graph : Type 0
Graph = List Header

-- an import of Prim changes nothing
abbrev pub counts : Import → Bool
counts i = not (same_name i.name (codes "Prim"))

-- the imports of a module, in text order
abbrev pub imports_in : Option Header → List Import
imports_in None = []
imports_in (Some h) = filter counts h.imports

abbrev pub imports_of : Graph → Name → List Import
imports_of g a = imports_in (find (λ h. same_name h.name a) g)

abbrev pub import_name : Import → Name
import_name i = i.name

abbrev pub header_name : Header → Name
header_name h = h.name

-- the names of the modules that a module imports; one that it imports twice stands there twice
abbrev pub below : Graph → Name → List Name
below g a = map import_name (imports_of g a)

abbrev pub names : Graph → List Name
names = map header_name

abbrev pub all_differ : List Name → Bool
all_differ [] = true
all_differ (n ∷ ns) = not (is_among ns n) && all_differ ns

-- an import of Prim, or of one of these modules
abbrev pub is_there : List Name → Import → Bool
is_there ns i = if counts i then is_among ns i.name else true

abbrev pub all_there : List Name → List Import → Bool
all_there ns = list_all (is_there ns)

-- the names differ, and each import is one of the modules
abbrev pub is_whole : Graph → Bool
is_whole g = all_differ (names g) && list_all (λ (h : Header). all_there (names g) h.imports) g

-- ---- byte order
abbrev pub in_front : Name → Name → Bool
in_front a b = is_le (slice_cmp nat_cmp a b)

abbrev pub inserted : Name → List Name → List Name
inserted a [] = a ∷ []
inserted a (b ∷ bs) = if in_front a b then a ∷ b ∷ bs else b ∷ inserted a bs

abbrev pub in_byte_order : List Name → List Name
in_byte_order [] = []
in_byte_order (a ∷ bs) = inserted a (in_byte_order bs)
