-- What growth does to an environment, by the ids of its items, and what every environment keeps.
use Rattle.std.specs.Prelude.{◌≡◌, ◌⊎◌, List, Some, None, option_map, cond, IsTrue}
use Rattle.qtt_base.specs.declared.place.GlobalId.{GlobalId}
use Rattle.qtt_term.specs.Term.{Term, same_id}
use Rattle.qtt_term.specs.Question.{either}
use Rattle.qtt_term.specs.declared.globals.Globals.{Globals}
use Rattle.qtt_term.specs.Contraction.{BodiesClosed}
use Rattle.qtt_term.specs.Environment.{ResultsCounted}
use Rattle.qtt_term.specs.Globals.{families, definitions, env}
use Rattle.qtt_term.specs.Keyed.{ascends, with_id, inserted, all_inserted}
use Rattle.qtt_term.specs.Items.{ConstructorEntry, FamilyEntry, DefinitionEntry, family_id, definition_id, given_constructors, with_constructors, given_body, with_body}

-- one more item is found by its id, and the others as before; items that share no id with the others are found by
-- theirs; a family that is given its constructors is as if it had been added with them; and a body is that of its
-- definition alone
pub record EnvironmentsGrow : Type 0 where
  pub family : (F : FamilyEntry) (Fs : List FamilyEntry) → with_id family_id F.id Fs ≡ None → (f : GlobalId) →
      with_id family_id f (inserted family_id F Fs) ≡ cond (same_id F.id f) (Some F) (with_id family_id f Fs)
  pub definition : (D : DefinitionEntry) (Ds : List DefinitionEntry) → with_id definition_id D.id Ds ≡ None →
      (d : GlobalId) →
      with_id definition_id d (inserted definition_id D Ds) ≡ cond (same_id D.id d) (Some D)
      (with_id definition_id d Ds)
  pub families : (Fs Gs : List FamilyEntry) → IsTrue (ascends family_id Fs) →
      ((id : GlobalId) → (with_id family_id id Gs ≡ None) ⊎ (with_id family_id id Fs ≡ None)) →
      (f : GlobalId) → with_id family_id f (all_inserted family_id Fs Gs) ≡ either (with_id family_id f Fs)
      (with_id family_id f Gs)
  pub definitions : (Ds Es : List DefinitionEntry) → IsTrue (ascends definition_id Ds) →
      ((id : GlobalId) → (with_id definition_id id Es ≡ None) ⊎ (with_id definition_id id Ds ≡ None)) →
      (d : GlobalId) → with_id definition_id d (all_inserted definition_id Ds Es) ≡ either
      (with_id definition_id d Ds) (with_id definition_id d Es)
  pub constructors : (F : FamilyEntry) (cs : List ConstructorEntry) (Fs : List FamilyEntry) →
      with_id family_id F.id Fs ≡ None →
      with_constructors F.id cs (inserted family_id F Fs) ≡ inserted family_id (given_constructors cs F) Fs
  pub body : (i : GlobalId) (b : Term) (Ds : List DefinitionEntry) (d : GlobalId) →
      with_id definition_id d (with_body i b Ds) ≡ option_map (λ D. cond (same_id D.id i) (given_body b D) D)
      (with_id definition_id d Ds)

-- what the calls of an environment ask for, kept
pub record Kept (g : Globals) : Type 0 where
  pub bodies_closed : BodiesClosed (env g)
  pub results_counted : ResultsCounted (env g)
  pub families_ascend : IsTrue (ascends family_id (families g))
  pub definitions_ascend : IsTrue (ascends definition_id (definitions g))

abbrev pub GlobalsKeepTheirFacts : Type 0
GlobalsKeepTheirFacts = (g : Globals) → Kept g
