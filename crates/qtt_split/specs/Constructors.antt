-- Constructors by the names of a text.
use Rattle.std.specs.Prelude.{ℕ, cond, eqb, List, [], map, Option, Some, None, slice_get}
use Rattle.std.specs.List.{after_last, list_any}
use Rattle.qtt_base.specs.declared.place.GlobalId.{GlobalId}
use Rattle.qtt_term.specs.declared.term.ConId.{ConId}
use Rattle.qtt_term.specs.Signature.{Tele, Constructor, family_at}
use Rattle.qtt_term.specs.Contraction.{chain}
use Rattle.qtt_term.specs.Keyed.{with_id}
use Rattle.qtt_term.specs.Entries.{Entries, env}
use Rattle.qtt_term.specs.Scope.{name_of}
use Rattle.qtt_term.specs.Items.{ConstructorEntry, family_id}

abbrev pub constructor_entry : Entries → ConId → Option ConstructorEntry
constructor_entry K c = chain (with_id family_id c.family K.families) (λ F. slice_get F.constructors c.place)

abbrev pub fields_of : Option Constructor → Tele
fields_of None = []
fields_of (Some d) = d.fields

abbrev pub fields_at : Entries → GlobalId → ℕ → Tele
fields_at K f c = fields_of (slice_get (family_at (env K) f).constructors c)

-- ---- names
-- the last part of a name
abbrev pub bare : List ℕ → List ℕ
bare n = cond (list_any (λ b. eqb b 46) n) (after_last (λ b. eqb b 46) n) n

-- the names of a constructor's fields
abbrev pub labels_of : Option ConstructorEntry → List (Option (List ℕ))
labels_of None = []
labels_of (Some e) = map name_of e.labels
