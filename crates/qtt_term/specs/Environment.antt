-- Well-formed and complete environments.
use Rattle.std.specs.Prelude.{◌≡◌, ◌≢◌, ℕ, ◌+◌, ◌≤◌, List, [], ◌∷◌, length, Some}
use Rattle.qtt_base.specs.declared.place.GlobalId.{GlobalId}
use Rattle.qtt_usage.specs.declared.mult.Mult.{Mult}
use Rattle.qtt_usage.specs.Mult.{𝟘, 𝟙, ω}
use Rattle.qtt_usage.specs.Uses.{zero_use}
use Rattle.qtt_term.specs.Term.{Io, Form, Term, Terms, var, node, ε, ◌▸◌, size, Sort}
use Rattle.qtt_term.specs.Substitution.{AllBelow, Closed}
use Rattle.qtt_term.specs.Signature.{Tele, Constructor, Family, Definition, Env, family_at, There, unit_id, bool_id, line_id, eq_id, unit_family, bool_family, line_family, eq_family, UnitTy, IoTy}
use Rattle.qtt_term.specs.Contraction.{Conv}
use Rattle.qtt_term.specs.Judgement.{Ctx, ext, Part, Usable, Typed, IsType}
use Rattle.qtt_term.specs.Positivity.{Positive}

-- ---- no Tape stands in a term
abbrev pub IsTape : Form → Type 0
IsTape (Form.tape n) = Unit {0}
IsTape _ = ⊥

abbrev mutual
  pub NoTape : Term → Type 0
  NoTape (var i) = Unit {0}
  NoTape (node F ts) = (IsTape F → ⊥) × NoTapes ts

  pub NoTapes : Terms → Type 0
  NoTapes ε = Unit {0}
  NoTapes (t ▸ ts) = NoTape t × NoTapes ts

-- ---- telescopes and lists of types
-- each is a type under those before it, and has no Tape
pub data Types (E : Env) : Ctx → Tele → Type 0 where
  none : {Γ : Ctx} → Types E Γ []
  more : {Γ : Ctx} {q : Mult} {T : Term} {Θ : Tele} → IsType E Γ T → NoTape T → Types E ((q, T) ∷ Γ) Θ →
      Types E Γ ((q, T) ∷ Θ)

-- each is a type in this context alone, and has no Tape
pub data TypesBeside (E : Env) (Γ : Ctx) : List Term → Type 0 where
  none : TypesBeside E Γ []
  more : {T : Term} {Ts : List Term} → IsType E Γ T → NoTape T → TypesBeside E Γ Ts → TypesBeside E Γ (T ∷ Ts)

-- each is a type of level at most l under those before it, and has no Tape
pub data TypesUpTo (E : Env) (l : ℕ) : Ctx → Tele → Type 0 where
  none : {Γ : Ctx} → TypesUpTo E l Γ []
  more : {Γ : Ctx} {q : Mult} {T : Term} {Θ : Tele} {i : ℕ} → Typed E Part.erased Γ T (Sort i) zero_use → i ≤ l →
      NoTape T →
      TypesUpTo E l ((q, T) ∷ Γ) Θ → TypesUpTo E l Γ ((q, T) ∷ Θ)

-- ---- results
-- the result of each constructor has so many terms
abbrev pub ResultsAre : ℕ → List Constructor → Type 0
ResultsAre n [] = Unit {0}
ResultsAre n (c ∷ cs) = (size c.results ≡ n) × ResultsAre n cs

-- the result of each constructor of each family has a term for each index
abbrev pub ResultsCounted : Env → Type 0
ResultsCounted E = (f : GlobalId) → ResultsAre (length (family_at E f).indices) (family_at E f).constructors

-- ---- families and definitions
-- fields are types of level at most the family's, under the parameters; there is one result for each index, in
-- which no variables are free but parameters and fields
pub record ConstructorFormed (E : Env) (F : Family) (c : Constructor) : Type 0 where
  pub fields : TypesUpTo E F.level (ext [] F.params) c.fields
  pub one_each : size c.results ≡ length F.indices
  pub results : AllBelow [] (length F.params + length c.fields) c.results
  pub no_tapes : NoTapes c.results

pub data ConstructorsFormed (E : Env) (F : Family) : List Constructor → Type 0 where
  none : ConstructorsFormed E F []
  more : {c : Constructor} {cs : List Constructor} → ConstructorFormed E F c → ConstructorsFormed E F cs →
      ConstructorsFormed E F (c ∷ cs)

pub record FamilyFormed (E : Env) (f : GlobalId) (F : Family) : Type 0 where
  pub params : Types E [] F.params
  pub indices : TypesBeside E (ext [] F.params) F.indices
  pub constructors : ConstructorsFormed E F F.constructors
  pub positive : Positive f F

-- what a definition of this multiplicity is judged in
abbrev pub part_of : Mult → Part
part_of 𝟘 = Part.erased
part_of 𝟙 = Part.run
part_of ω = Part.run

-- its multiplicity is 0 or many, its type is a type under nothing, and its body, where there is one, has that
-- type with use zero
pub record DefinitionFormed (E : Env) (D : Definition) : Type 0 where
  pub mult : D.mult ≢ 𝟙
  pub is_type : IsType E [] D.type
  pub type_no_tape : NoTape D.type
  pub closed : (b : Term) → D.body ≡ Some b → Closed b
  pub typed : (b : Term) → D.body ≡ Some b → Typed E (part_of D.mult) [] b D.type zero_use
  pub no_tape : (b : Term) → D.body ≡ Some b → NoTape b

pub record HasPrim (E : Env) : Type 0 where
  pub units : E.family unit_id ≡ Some unit_family
  pub truths : E.family bool_id ≡ Some bool_family
  pub lines : E.family line_id ≡ Some line_family
  pub equalities : E.family eq_id ≡ Some eq_family

pub record WellFormed (E : Env) : Type 0 where
  pub prims : HasPrim E
  pub families : (f : GlobalId) (F : Family) → E.family f ≡ Some F → FamilyFormed E f F
  pub definitions : (d : GlobalId) (D : Definition) → E.definition d ≡ Some D → DefinitionFormed E D

-- each definition that is not 0 has a body
abbrev pub Complete : Env → Type 0
Complete E = (d : GlobalId) (D : Definition) → E.definition d ≡ Some D → Usable Part.run D.mult → There D.body

-- a definition that is not 0 and whose type is convertible to IO Unit
pub record IsMain (E : Env) (main : GlobalId) : Type 0 where
  pub definition : Definition
  pub there : E.definition main ≡ Some definition
  pub usable : Usable Part.run definition.mult
  pub typed : Conv E definition.type (IoTy Io.io UnitTy)
