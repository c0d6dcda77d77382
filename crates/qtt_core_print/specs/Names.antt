-- The names with which terms are printed: those of the entries of an environment, by their ids.
use Rattle.std.specs.Prelude.{ℕ, eqb, ◌==◌, ◌++◌, if◌then◌else◌, List, [], ◌∷◌, codes, slice_get, Option, Some, None, option_map}
use Rattle.qtt_base.specs.declared.place.GlobalId.{GlobalId}
use Rattle.qtt_term.specs.Keyed.{with_id}
use Rattle.qtt_term.specs.Items.{ConstructorEntry, FamilyEntry, family_id, definition_id}
use Rattle.qtt_term.specs.Entries.{Entries}

-- the last part of a name, of which this part was read so far
abbrev pub last_part : List ℕ → List ℕ → List ℕ
last_part part [] = part
last_part part (b ∷ bs) = if b == 46 then last_part [] bs else last_part (part ++ b ∷ []) bs

-- a name without its module: its last part
abbrev pub unqualified : List ℕ → List ℕ
unqualified n = last_part [] n

-- names of Prim, which is module 0, stand alone, others with their module
abbrev pub told : GlobalId → List ℕ → List ℕ
told id n = if eqb id.module.0 0 then unqualified n else n

-- `_` for what the names don't have
abbrev pub told_or_blank : Option (List ℕ) → List ℕ
told_or_blank None = codes "_"
told_or_blank (Some n) = n

unfoldable pub family_name : Entries → GlobalId → List ℕ
family_name N f = told_or_blank (option_map (λ F. told F.id F.name) (with_id family_id f N.families))

unfoldable pub definition_name : Entries → GlobalId → List ℕ
definition_name N d = told_or_blank (option_map (λ D. told D.id D.name) (with_id definition_id d N.definitions))

abbrev pub place_name : ℕ → FamilyEntry → List ℕ
place_name c F = told_or_blank (option_map (λ (d : ConstructorEntry). told d.id d.name) (slice_get F.constructors c))

-- the constructor at a place of a family
unfoldable pub constructor_name : Entries → GlobalId → ℕ → List ℕ
constructor_name N f c = told_or_blank (option_map (place_name c) (with_id family_id f N.families))
