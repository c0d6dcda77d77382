-- Environments as lists: the families and definitions that stand before an item or an expression, with their ids,
-- names and labels.
use Rattle.std.specs.Prelude.{◌≡◌, List, [], option_map}
use Rattle.qtt_base.specs.declared.place.GlobalId.{GlobalId}
use Rattle.qtt_term.specs.declared.globals.Globals.{Globals}
use Rattle.qtt_term.specs.Term.{Term}
use Rattle.qtt_term.specs.Signature.{Env}
use Rattle.qtt_term.specs.Keyed.{with_id, inserted}
use Rattle.qtt_term.specs.Items.{FamilyEntry, DefinitionEntry, family_id, definition_id, with_body as given}
use Rattle.qtt_term.specs.PrimItems.{prim_families}
use Rattle.qtt_term.specs.PrimEnvironment.{prim_env}
use Rattle.qtt_term.specs.Globals as globals

-- each in the order of their ids
pub record Entries : Type 0 where
  pub families : List FamilyEntry
  pub definitions : List DefinitionEntry

-- the environment that they make up
abbrev pub env : Entries → Env
env G = record {
  family = λ f. option_map (λ e. e.family) (with_id family_id f G.families);
  definition = λ d. option_map (λ e. e.definition) (with_id definition_id d G.definitions);
}

-- the module Prim
abbrev pub prim_entries : Entries
prim_entries = record { families = prim_families; definitions = [] }

-- ---- growth
abbrev pub with_family : FamilyEntry → Entries → Entries
with_family F G = record { families = inserted family_id F G.families; definitions = G.definitions }

abbrev pub with_definition : DefinitionEntry → Entries → Entries
with_definition d G = record { families = G.families; definitions = inserted definition_id d G.definitions }

-- with this body for a definition that has none
abbrev pub with_body : GlobalId → Term → Entries → Entries
with_body d b G = record { families = G.families; definitions = given d b G.definitions }

-- ---- what the code's environments stand for
abbrev pub entries : Globals → Entries
entries g = record { families = globals.families g; definitions = globals.definitions g }

-- the environment that entries make up is the one that the code is judged in, and that of the module Prim is Prim's
pub record EntriesAreTheEnvironment : Type 0 where
  pub of_code : (g : Globals) → env (entries g) ≡ globals.env g
  pub prim : env prim_entries ≡ prim_env
