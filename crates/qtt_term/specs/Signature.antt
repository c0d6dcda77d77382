-- Environments: families with their constructors, and definitions; and the signatures of what is named.
use Rattle.std.specs.Prelude.{◌≡◌, ℕ, suc, List, [], ◌∷◌, ◌++◌, length, Option, Some, None, Bool, true, false}
use Rattle.qtt_base.specs.declared.place.GlobalId.{GlobalId}
use Rattle.qtt_usage.specs.declared.mult.Mult.{Mult}
use Rattle.qtt_usage.specs.Mult.{𝟘, 𝟙, ω}
use Rattle.qtt_prims.specs.declared.prim.Primitive.{Primitive}
use Rattle.qtt_prims.specs.declared.prim.Primitive.TheVariants as prim
use Rattle.qtt_prims.specs.declared.lit.Lit.TheVariants as literal
use Rattle.qtt_term.specs.Term.{Io, PrimTy, Action, Named, Form, Term, Terms, var, node, ε, ◌▸◌, ◌+++◌, Sort, Pi, Fam, TypeOf}
use Rattle.qtt_term.specs.Substitution.{ren, shift, above}

-- binders with their multiplicities, the outermost first; each type stands under the binders before it
abbrev pub Tele : Type 0
Tele = List (Mult × Term)

-- under its family's parameters: fields; and under these too, a term for each index
pub record Constructor : Type 0 where
  pub fields : Tele
  pub results : Terms

-- parameters; and under the parameters alone, the types of the indices
pub record Family : Type 0 where
  pub params : Tele
  pub indices : List Term
  pub level : ℕ
  pub constructors : List Constructor

pub record Definition : Type 0 where
  pub mult : Mult
  pub type : Term
  pub body : Option Term

pub record Env : Type 0 where
  pub family : GlobalId → Option Family
  pub definition : GlobalId → Option Definition

-- what stands for an id that is not there: a family without constructors, and a 0 definition without a body
abbrev pub family_of : Option Family → Family
family_of None = record { params = []; indices = []; level = 0; constructors = [] }
family_of (Some F) = F

abbrev pub definition_of : Option Definition → Definition
definition_of None = record { mult = 𝟘; type = Sort 0; body = None }
definition_of (Some d) = d

abbrev pub family_at : Env → GlobalId → Family
family_at E f = family_of (E.family f)

abbrev pub definition_at : Env → GlobalId → Definition
definition_at E d = definition_of (E.definition d)

abbrev pub There : {A : Type 0} → Option A → Type 0
There None = ⊥
There (Some a) = Unit {0}

-- ---- the families of Prim: Unit, Bool, Line and Eq, by their numbers in Prim's table of names
abbrev pub prim_id : ℕ → GlobalId
prim_id n = record { «module» = record { 0 = 0 }; item = n }

abbrev pub unit_id : GlobalId
unit_id = prim_id 3

abbrev pub bool_id : GlobalId
bool_id = prim_id 4

abbrev pub line_id : GlobalId
line_id = prim_id 5

abbrev pub eq_id : GlobalId
eq_id = prim_id 13

abbrev pub UnitTy : Term
UnitTy = Fam unit_id ε

abbrev pub MkUnit : Term
MkUnit = node (Form.con unit_id 0 0) ε

abbrev pub BoolTy : Term
BoolTy = Fam bool_id ε

abbrev pub truth : Bool → Term
truth false = node (Form.con bool_id 0 0) ε
truth true = node (Form.con bool_id 1 0) ε

abbrev pub LineTy : Term
LineTy = Fam line_id ε

abbrev pub Eof : Term
Eof = node (Form.con line_id 0 0) ε

abbrev pub Got : Term → Term
Got s = node (Form.con line_id 1 0) (s ▸ ε)

-- that s and t of type A are equal, and the proof for one term
abbrev pub EqTy : Term → Term → Term → Term
EqTy A s t = Fam eq_id (A ▸ s ▸ t ▸ ε)

abbrev pub Refl : Term → Term → Term
Refl A s = node (Form.con eq_id 0 2) (A ▸ s ▸ ε)

abbrev pub IntTy : Term
IntTy = TypeOf PrimTy.int ε

abbrev pub StringTy : Term
StringTy = TypeOf PrimTy.string ε

abbrev pub HandleTy : Term
HandleTy = TypeOf PrimTy.handle ε

abbrev pub IoTy : Io → Term → Term
IoTy m A = TypeOf (PrimTy.io_of m) (A ▸ ε)

abbrev pub plain_constructor : Tele → Constructor
plain_constructor Θ = record { fields = Θ; results = ε }

abbrev pub plain_family : List Constructor → Family
plain_family ds = record { params = []; indices = []; level = 0; constructors = ds }

-- data Unit : Type where MkUnit : Unit
abbrev pub unit_family : Family
unit_family = plain_family (plain_constructor [] ∷ [])

-- data Bool : Type where False : Bool; True : Bool
abbrev pub bool_family : Family
bool_family = plain_family (plain_constructor [] ∷ plain_constructor [] ∷ [])

-- data Line : Type where Eof : Line; Got : String -> Line
abbrev pub line_family : Family
line_family = plain_family (plain_constructor [] ∷ plain_constructor ((ω, StringTy) ∷ []) ∷ [])

-- data Eq (a : Type) (x : a) : a -> Type where Refl : Eq a x x
abbrev pub eq_family : Family
eq_family = record {
  params = (𝟘, Sort 0) ∷ (𝟘, var 0) ∷ [];
  indices = var 1 ∷ [];
  level = 0;
  constructors = record { fields = []; results = var 0 ▸ ε } ∷ [];
}

-- ---- signatures: arguments, and under these the type; and whether it may be used in the run part
pub record Signature : Type 0 where
  pub arguments : Tele
  pub type : Term
  pub mult : Mult

-- a result is many after IO and at 1 after IO1
abbrev pub mult_of : Io → Mult
mult_of Io.io = ω
mult_of Io.io1 = 𝟙

abbrev pub from_to : Tele → Term → Signature
from_to Θ A = record { arguments = Θ; type = A; mult = ω }

abbrev pub prim_signature : Primitive → Signature
prim_signature prim.AddInt = from_to ((ω, IntTy) ∷ (ω, IntTy) ∷ []) IntTy
prim_signature prim.SubInt = from_to ((ω, IntTy) ∷ (ω, IntTy) ∷ []) IntTy
prim_signature prim.MulInt = from_to ((ω, IntTy) ∷ (ω, IntTy) ∷ []) IntTy
prim_signature prim.DivInt = from_to ((ω, IntTy) ∷ (ω, IntTy) ∷ []) IntTy
prim_signature prim.ModInt = from_to ((ω, IntTy) ∷ (ω, IntTy) ∷ []) IntTy
prim_signature prim.EqInt = from_to ((ω, IntTy) ∷ (ω, IntTy) ∷ []) BoolTy
prim_signature prim.LtInt = from_to ((ω, IntTy) ∷ (ω, IntTy) ∷ []) BoolTy
prim_signature prim.AppendString = from_to ((ω, StringTy) ∷ (ω, StringTy) ∷ []) StringTy
prim_signature prim.EqString = from_to ((ω, StringTy) ∷ (ω, StringTy) ∷ []) BoolTy
prim_signature prim.ShowInt = from_to ((ω, IntTy) ∷ []) StringTy

-- type arguments are at 0; a bind takes its action and its continuation at 1
abbrev pub act_signature : Action → Signature
act_signature (Action.pure m) = from_to ((𝟘, Sort 0) ∷ (mult_of m, var 0) ∷ []) (IoTy m (var 1))
act_signature (Action.bind m n) =
    from_to ((𝟘, Sort 0) ∷ (𝟘, Sort 0) ∷ (𝟙, IoTy m (var 1)) ∷ (𝟙, Pi (mult_of m) (var 2) (IoTy n (var 2))) ∷ [])
    (IoTy n (var 2))
act_signature Action.put_line = from_to ((ω, StringTy) ∷ []) (IoTy Io.io UnitTy)
act_signature Action.get_line = from_to [] (IoTy Io.io LineTy)
act_signature Action.opens = from_to ((ω, StringTy) ∷ []) (IoTy Io.io1 HandleTy)
act_signature Action.writes = from_to ((𝟙, HandleTy) ∷ (ω, StringTy) ∷ []) (IoTy Io.io1 HandleTy)
act_signature Action.closes = from_to ((𝟙, HandleTy) ∷ []) (IoTy Io.io UnitTy)

-- how many type arguments an action takes, which are the first of its arguments
abbrev pub type_arguments : Action → ℕ
type_arguments (Action.pure m) = 1
type_arguments (Action.bind m n) = 2
type_arguments Action.put_line = 0
type_arguments Action.get_line = 0
type_arguments Action.opens = 0
type_arguments Action.writes = 0
type_arguments Action.closes = 0

abbrev pub signature : Env → Named → Signature
signature E (Named.def d) = record { arguments = []; type = (definition_at E d).type; mult = (definition_at E d).mult }
signature E (Named.lit (literal.Int z)) = from_to [] IntTy
signature E (Named.lit (literal.Text s)) = from_to [] StringTy
signature E (Named.prim_ty PrimTy.int) = from_to [] (Sort 0)
signature E (Named.prim_ty PrimTy.string) = from_to [] (Sort 0)
signature E (Named.prim_ty PrimTy.handle) = from_to [] (Sort 0)
signature E (Named.prim_ty (PrimTy.io_of m)) = from_to ((𝟘, Sort 0) ∷ []) (Sort 0)
signature E (Named.prim p) = prim_signature p
signature E (Named.act a k) = act_signature a

-- a definition that is named is there, and an action has its own number of type arguments
abbrev pub NamedThere : Env → Named → Type 0
NamedThere E (Named.def d) = There (E.definition d)
NamedThere E (Named.lit l) = Unit {0}
NamedThere E (Named.prim_ty p) = Unit {0}
NamedThere E (Named.prim p) = Unit {0}
NamedThere E (Named.act a k) = k ≡ type_arguments a

-- ---- what the rules of Fam, Con and Case read off a family
-- a constructor under its family's parameters: fields; and under these too, what its motive is taken at, which is
-- the indices of its result and the constructor itself, and its result
pub record ConSig : Type 0 where
  pub fields : Tele
  pub targets : Terms
  pub result : Term

-- a family: parameters; under them, the binders of a motive, which are the indices and the scrutinee; under
-- parameters and indices, the family at them; its constructors
pub record FamSig : Type 0 where
  pub params : Tele
  pub motive : Tele
  pub self : Term
  pub indices : Tele
  pub level : ℕ
  pub constructors : List ConSig

-- constructor c of family f with k parameters
abbrev pub con_sig : GlobalId → ℕ → ℕ → Constructor → ConSig
con_sig f k c d = record {
  fields = d.fields;
  targets = d.results +++ (node (Form.con f c k) (above (length d.fields) k +++ above 0 (length d.fields)) ▸ ε);
  result = Fam f (above (length d.fields) k +++ d.results);
}

abbrev pub con_sigs : GlobalId → ℕ → ℕ → List Constructor → List ConSig
con_sigs f k c [] = []
con_sigs f k c (d ∷ ds) = con_sig f k c d ∷ con_sigs f k (suc c) ds

-- the indices as binders: each type stands under the parameters and the indices before it, which it does not
-- mention
abbrev pub index_binders : ℕ → List Term → Tele
index_binders n [] = []
index_binders n (T ∷ Ts) = (ω, ren (shift n) T) ∷ index_binders (suc n) Ts

abbrev pub self_of : GlobalId → Family → Term
self_of f F = Fam f (above (length F.indices) (length F.params) +++ above 0 (length F.indices))

abbrev pub fam_sig : GlobalId → Family → FamSig
fam_sig f F = record {
  params = F.params;
  motive = index_binders 0 F.indices ++ (ω, self_of f F) ∷ [];
  self = self_of f F;
  indices = index_binders 0 F.indices;
  level = F.level;
  constructors = con_sigs f (length F.params) 0 F.constructors;
}

abbrev pub fam_at : Env → GlobalId → FamSig
fam_at E f = fam_sig f (family_at E f)
