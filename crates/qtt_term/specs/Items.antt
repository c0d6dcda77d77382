-- What the code's families, constructors and definitions stand for.
use Rattle.std.specs.Prelude.{ℕ, suc, List, [], ◌∷◌, map, Option, Some, None, option_map, is_none, cond, Bool, true, ◌&&◌, length, eqb}
use Rattle.std.specs.List.{list_all}
use Rattle.qtt_base.specs.declared.place.GlobalId.{GlobalId}
use Rattle.qtt_usage.specs.declared.mult.Mult.{Mult}
use Rattle.qtt_usage.specs.Mult.{𝟘}
use Rattle.qtt_term.specs.declared.term.Term as code
use Rattle.qtt_term.specs.declared.term.ConId.{ConId}
use Rattle.qtt_term.specs.declared.items.Family as code_family
use Rattle.qtt_term.specs.declared.items.Constructor as code_constructor
use Rattle.qtt_term.specs.declared.items.Definition as code_definition
use Rattle.qtt_term.specs.Term.{Term, size, same_id}
use Rattle.qtt_term.specs.Substitution.{is_closed}
use Rattle.qtt_term.specs.Signature.{Constructor, Family, Definition}
use Rattle.qtt_term.specs.Question.{either}
use Rattle.qtt_term.specs.Keyed.{ids_differ}
use Rattle.qtt_term.specs.View.{term, terms, side_by_side}

abbrev pub field : Mult × code.Term → Mult × Term
field f = (f.0, term f.1)

abbrev pub constructor : code_constructor.Constructor → Constructor
constructor c = record {
  fields = map field c.fields.items;
  results = side_by_side (terms c.result.items);
}

abbrev pub family : code_family.Family → Family
family F = record {
  params = map (λ t. (𝟘, t)) (terms F.params.items);
  indices = terms F.indices.items;
  level = F.level;
  constructors = map constructor F.constructors.items;
}

abbrev pub definition : code_definition.Definition → Definition
definition d = record { mult = d.mult; type = term d.ty; body = option_map term d.body }

-- ---- the same with their ids and names
pub record ConstructorEntry : Type 0 where
  pub id : GlobalId
  pub name : List ℕ
  pub labels : List (List ℕ)
  pub constructor : Constructor

pub record FamilyEntry : Type 0 where
  pub id : GlobalId
  pub name : List ℕ
  pub family : Family
  pub constructors : List ConstructorEntry

pub record DefinitionEntry : Type 0 where
  pub id : GlobalId
  pub name : List ℕ
  pub definition : Definition

abbrev pub constructor_entry : code_constructor.Constructor → ConstructorEntry
constructor_entry c = record { id = c.id; name = c.name; labels = c.labels.items; constructor = constructor c }

abbrev pub family_entry : code_family.Family → FamilyEntry
family_entry F = record {
  id = F.id;
  name = F.name;
  family = family F;
  constructors = map constructor_entry F.constructors.items;
}

abbrev pub definition_entry : code_definition.Definition → DefinitionEntry
definition_entry d = record { id = d.id; name = d.name; definition = definition d }

abbrev pub constructor_id : ConstructorEntry → GlobalId
constructor_id c = c.id

abbrev pub family_id : FamilyEntry → GlobalId
family_id F = F.id

abbrev pub definition_id : DefinitionEntry → GlobalId
definition_id d = d.id

-- a definition without a body
abbrev pub signature_entry : GlobalId → List ℕ → Mult → Term → DefinitionEntry
signature_entry i n q T = record { id = i; name = n; definition = record { mult = q; type = T; body = None } }

-- the same with this body
abbrev pub given_body : Term → DefinitionEntry → DefinitionEntry
given_body b d = record {
  id = d.id;
  name = d.name;
  definition = record { mult = d.definition.mult; type = d.definition.type; body = Some b };
}

-- the definition of this id with this body
abbrev pub with_body : GlobalId → Term → List DefinitionEntry → List DefinitionEntry
with_body i b = map (λ d. cond (same_id d.id i) (given_body b d) d)

-- the same with these constructors
abbrev pub given_constructors : List ConstructorEntry → FamilyEntry → FamilyEntry
given_constructors cs F = record {
  id = F.id;
  name = F.name;
  family = record {
    params = F.family.params;
    indices = F.family.indices;
    level = F.family.level;
    constructors = map (λ c. c.constructor) cs;
  };
  constructors = cs;
}

-- the family of this id with these constructors
abbrev pub with_constructors : GlobalId → List ConstructorEntry → List FamilyEntry → List FamilyEntry
with_constructors f cs = map (λ F. cond (same_id F.id f) (given_constructors cs F) F)

-- ---- constructors by their ids
-- the constructor of this id among those of family f from place n on
abbrev pub constructor_from : GlobalId → ℕ → List ConstructorEntry → GlobalId → Option ConId
constructor_from f n [] id = None
constructor_from f n (c ∷ cs) id =
    cond (same_id c.id id) (Some (record { family = f; place = n })) (constructor_from f (suc n) cs id)

abbrev pub constructor_in : FamilyEntry → GlobalId → Option ConId
constructor_in F id = constructor_from F.id 0 F.constructors id

-- the first constructor of this id
abbrev pub constructor_of : List FamilyEntry → GlobalId → Option ConId
constructor_of [] id = None
constructor_of (F ∷ Fs) id = either (constructor_in F id) (constructor_of Fs id)

-- no two constructors have one id
abbrev pub constructors_differ : List FamilyEntry → Bool
constructors_differ [] = true
constructors_differ (F ∷ Fs) =
    ids_differ (map constructor_id F.constructors) &&
    (list_all (λ c. is_none (constructor_of Fs c.id)) F.constructors && constructors_differ Fs)

-- a family's id and its constructors'
abbrev pub ids : FamilyEntry → List GlobalId
ids F = F.id ∷ map constructor_id F.constructors

-- ---- what each item of an environment keeps
-- whether no variable is free in the body
abbrev pub body_closed : Definition → Bool
body_closed D = elim D.body [ None ↦ true | Some b ↦ is_closed b ]

abbrev pub all_bodies_closed : List DefinitionEntry → Bool
all_bodies_closed = list_all (λ d. body_closed d.definition)

-- whether the result of each constructor has one term for each index
abbrev pub results_counted : Family → Bool
results_counted F = list_all (λ c. eqb (size c.results) (length F.indices)) F.constructors

abbrev pub all_results_counted : List FamilyEntry → Bool
all_results_counted = list_all (λ F. results_counted F.family)
