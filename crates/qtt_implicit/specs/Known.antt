-- The signatures that a text sees: those of its own items that stand earlier, of the modules that it imports,
-- and of Prim.
use Rattle.std.specs.Prelude.{ℕ, eqb, if◌then◌else◌, List, find, Option, slice_get, option_map}
use Rattle.std.specs.Option.{option_and_then}
use Rattle.qtt_base.specs.declared.place.GlobalId.{GlobalId}
use Rattle.qtt_base.specs.declared.place.ModuleId.{ModuleId}
use Rattle.qtt_names.specs.Scope.{same_name}
use Rattle.qtt_names.specs.Exports.{Exports, Sig}

-- a text's own number, its items so far in the order of their numbers, each with its name, and what it imports,
-- Prim among it
pub record Known : Type 0 where
  pub home : ModuleId
  pub own : List (List ℕ × Sig)
  pub imports : List Exports

abbrev pub exported : List Exports → GlobalId → Option Sig
exported es id = option_and_then (λ (e : Exports). slice_get e.sigs id.item) (find (λ e. eqb e.home.0 id.module.0) es)

abbrev pub own_signature : List (List ℕ × Sig) → ℕ → Option Sig
own_signature own n = option_map (λ (o : List ℕ × Sig). o.1) (slice_get own n)

abbrev pub signature : Known → GlobalId → Option Sig
signature K id = if eqb id.module.0 K.home.0 then own_signature K.own id.item else exported K.imports id

-- the own item of a name
abbrev pub signature_named : Known → List ℕ → Option Sig
signature_named K n = option_map (λ (o : List ℕ × Sig). o.1) (find (λ (o : List ℕ × Sig). same_name o.0 n) K.own)
