-- Larger environments: what is there stays, and constructors, bodies, families and definitions may be added.
use Rattle.std.specs.Prelude.{◌≡◌, List, ◌++◌, Some}
use Rattle.qtt_base.specs.declared.place.GlobalId.{GlobalId}
use Rattle.qtt_term.specs.Term.{Form, Term, Terms, var, node, ε, ◌▸◌}
use Rattle.qtt_term.specs.Signature.{Constructor, Family, Definition, Env, There}

pub record FamilyGrows (F G : Family) : Type 0 where
  pub params : F.params ≡ G.params
  pub indices : F.indices ≡ G.indices
  pub level : F.level ≡ G.level
  pub added : List Constructor
  pub constructors : F.constructors ++ added ≡ G.constructors

pub record DefinitionGrows (A B : Definition) : Type 0 where
  pub mult : A.mult ≡ B.mult
  pub type : A.type ≡ B.type
  pub body : (b : Term) → A.body ≡ Some b → B.body ≡ Some b

pub record Grows (D E : Env) : Type 0 where
  pub families : (f : GlobalId) (F : Family) → D.family f ≡ Some F →
      (G : Family) × (E.family f ≡ Some G) × FamilyGrows F G
  pub definitions : (d : GlobalId) (A : Definition) → D.definition d ≡ Some A →
      (B : Definition) × (E.definition d ≡ Some B) × DefinitionGrows A B

-- no constructors are added
abbrev pub FamiliesStay : Env → Env → Type 0
FamiliesStay D E = (f : GlobalId) → There (D.family f) → D.family f ≡ E.family f

abbrev pub CaseIn : (GlobalId → Type 0) → Form → Type 0
CaseIn P (Form.case q f k m ns) = P f
CaseIn P _ = Unit {0}

-- the family of each Case in a term
abbrev mutual
  pub CasesIn : (GlobalId → Type 0) → Term → Type 0
  CasesIn P (var i) = Unit {0}
  CasesIn P (node F ts) = CaseIn P F × AllCasesIn P ts

  pub AllCasesIn : (GlobalId → Type 0) → Terms → Type 0
  AllCasesIn P ε = Unit {0}
  AllCasesIn P (t ▸ ts) = CasesIn P t × AllCasesIn P ts
