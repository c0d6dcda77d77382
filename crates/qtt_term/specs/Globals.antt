-- The environment that the code's families and definitions stand for.
use Rattle.std.specs.Prelude.{◌≡◌, ◌<◌, ◌^◌, length, List, [], map, Some, None, option_map, is_none, IsTrue, Bool, true, ◌&&◌, eqb}
use Rattle.std.specs.List.{list_all}
use Rattle.qtt_base.specs.declared.place.GlobalId.{GlobalId}
use Rattle.qtt_term.specs.declared.globals.Globals.{Globals}
use Rattle.qtt_term.specs.declared.items.Constructor as code_constructor
use Rattle.qtt_term.specs.declared.items.Family as code_family
use Rattle.qtt_term.specs.Signature.{Env}
use Rattle.qtt_term.specs.Keyed.{with_id, ids_differ}
use Rattle.qtt_term.specs.Items.{FamilyEntry, DefinitionEntry, family, results_counted, constructor_entry, family_entry, definition_entry, constructor_id, family_id, definition_id, given_constructors, constructor_of, ids}

-- the families and the definitions, each in the order of their ids
abbrev pub families : Globals → List FamilyEntry
families g = map family_entry g.families.items

abbrev pub definitions : Globals → List DefinitionEntry
definitions g = map definition_entry g.definitions.items

abbrev pub env : Globals → Env
env g = record {
  family = λ f. option_map (λ e. e.family) (with_id family_id f (families g));
  definition = λ d. option_map (λ e. e.definition) (with_id definition_id d (definitions g));
}

-- no item has this id
abbrev pub is_absent : Globals → GlobalId → Bool
is_absent g id =
    is_none (with_id family_id id (families g)) &&
    (is_none (constructor_of (families g) id) && is_none (with_id definition_id id (definitions g)))

abbrev pub IsAbsent : Globals → GlobalId → Type 0
IsAbsent g id = IsTrue (is_absent g id)

-- a family whose ids differ, are of one module, and are not there
pub record IsNew (g : Globals) (F : FamilyEntry) : Type 0 where
  pub differ : IsTrue (ids_differ (ids F))
  pub one_module : IsTrue (list_all (λ id. eqb id.module.0 F.id.module.0) (ids F))
  pub absent : IsTrue (list_all (is_absent g) (ids F))

-- what is asked of a family that is added: its constructors are numbered by 32 bits, its ids are new, and the
-- result of each constructor has one term for each index
pub record CanAdd (g : Globals) (F : code_family.Family) : Type 0 where
  pub count : length F.constructors.items < 2 ^ 32
  pub new_ids : IsNew g (family_entry F)
  pub counted : IsTrue (results_counted (family F))

-- what is asked of the constructors that a family is given: it stands there without any, they are numbered by 32 bits,
-- their ids differ and are new, and the result of each has one term for each index
pub record CanGive (g : Globals) (f : GlobalId) (cs : List code_constructor.Constructor) : Type 0 where
  pub bare : option_map (λ F. F.constructors) (with_id family_id f (families g)) ≡ Some []
  pub count : length cs < 2 ^ 32
  pub differ : IsTrue (ids_differ (map constructor_id (map constructor_entry cs)))
  pub absent : IsTrue (list_all (λ c. is_absent g c.id) cs)
  pub counted : IsTrue (elim (with_id family_id f (families g)) [
    | None ↦ true
    | Some F ↦ results_counted (given_constructors (map constructor_entry cs) F).family
  ])

-- a definition has this id, and it has no body
abbrev pub IsOpen : Globals → GlobalId → Type 0
IsOpen g id = option_map (λ e. e.definition.body) (with_id definition_id id (definitions g)) ≡ Some None
