-- The families of the module Prim, with their ids and names.
use Rattle.std.specs.Prelude.{ℕ, List, [], ◌∷◌, codes}
use Rattle.qtt_term.specs.Signature.{Constructor, prim_id, unit_id, bool_id, line_id, eq_id, plain_constructor, unit_family, bool_family, line_family, eq_family, StringTy}
use Rattle.qtt_term.specs.Term.{var, ε, ◌▸◌}
use Rattle.qtt_usage.specs.Mult.{ω}
use Rattle.qtt_term.specs.Items.{ConstructorEntry, FamilyEntry}

abbrev pub plain_entry : ℕ → List ℕ → List (List ℕ) → Constructor → ConstructorEntry
plain_entry i n ls c = record { id = prim_id i; name = n; labels = ls; constructor = c }

abbrev pub unit_entry : FamilyEntry
unit_entry = record {
  id = unit_id;
  name = codes "Prim.Unit";
  family = unit_family;
  constructors = plain_entry 8 (codes "Prim.MkUnit") [] (plain_constructor []) ∷ [];
}

abbrev pub bool_entry : FamilyEntry
bool_entry = record {
  id = bool_id;
  name = codes "Prim.Bool";
  family = bool_family;
  constructors = plain_entry 9 (codes "Prim.False") [] (plain_constructor []) ∷ plain_entry 10
      (codes "Prim.True") [] (plain_constructor []) ∷ [];
}

abbrev pub line_entry : FamilyEntry
line_entry = record {
  id = line_id;
  name = codes "Prim.Line";
  family = line_family;
  constructors =
      plain_entry 11 (codes "Prim.Eof") [] (plain_constructor [])
      ∷ plain_entry 12 (codes "Prim.Got") (codes "_" ∷ []) (plain_constructor ((ω, StringTy) ∷ [])) ∷ [];
}

abbrev pub eq_entry : FamilyEntry
eq_entry = record {
  id = eq_id;
  name = codes "Prim.Eq";
  family = eq_family;
  constructors = plain_entry 14 (codes "Prim.Refl") [] (record { fields = []; results = var 0 ▸ ε }) ∷ [];
}

abbrev pub prim_families : List FamilyEntry
prim_families = unit_entry ∷ bool_entry ∷ line_entry ∷ eq_entry ∷ []
