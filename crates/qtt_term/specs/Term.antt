-- Core terms: a variable, or a form with its components.
-- The form carries what is fixed (levels, multiplicities, names, literals, counts) and says under how many
-- binders each component stands. Variables are de Bruijn indices.
use Rattle.std.specs.Prelude.{ℕ, zero, suc, ℤ, Bool, ◌&&◌, eqb, List, [], ◌∷◌}
use Rattle.qtt_base.specs.declared.place.GlobalId.{GlobalId}
use Rattle.qtt_usage.specs.declared.mult.Mult.{Mult}
use Rattle.qtt_prims.specs.declared.prim.Primitive.{Primitive}
use Rattle.qtt_prims.specs.declared.lit.Lit.{Lit}
use Rattle.qtt_prims.specs.declared.lit.Lit.TheVariants as literal

-- IO, whose results are many, and IO1, whose results are at 1
pub data Io : Type 0 where
  io io1 : Io

pub data PrimTy : Type 0 where
  int string handle : PrimTy
  io_of : Io → PrimTy

-- the eleven actions: one pure for IO and one for IO1, and a bind from each to each
pub data Action : Type 0 where
  pure : Io → Action
  bind : Io → Io → Action
  put_line get_line opens writes closes : Action

-- what has a signature of its own: a telescope of arguments, and a type
pub data Named : Type 0 where
  def : GlobalId → Named
  lit : Lit → Named
  prim_ty : PrimTy → Named
  prim : Primitive → Named
  -- its action, and how many of its components are type arguments; the others are arguments
  act : Action → ℕ → Named

pub data Form : Type 0 where
  sort : ℕ → Form
  pi lam app : Mult → Form
  -- a family; its components are parameters and indices
  fam : GlobalId → Form
  -- its family, its place there, and how many of its components are parameters; the others are fields
  con : GlobalId → ℕ → ℕ → Form
  -- multiplicity, family, how many parameters, and how many binders the motive and each branch stand under
  case : Mult → GlobalId → ℕ → ℕ → List ℕ → Form
  -- type, point, motive under one proof, branch, scrutinee
  delete : Mult → Form
  named : Named → Form
  trap : Form
  tape : ℕ → Form

-- so many zeros first
abbrev pub zeros : ℕ → List ℕ → List ℕ
zeros zero ns = ns
zeros (suc k) ns = 0 ∷ zeros k ns

-- how many binders each component stands under, 0 past the end
abbrev pub binders : Form → List ℕ
binders (Form.pi q) = 0 ∷ 1 ∷ []
binders (Form.lam q) = 0 ∷ 1 ∷ []
binders (Form.case q f k m ns) = zeros k (m ∷ ns)
binders (Form.delete q) = 0 ∷ 0 ∷ 1 ∷ []
binders _ = []

abbrev pub first : List ℕ → ℕ
first [] = 0
first (n ∷ ns) = n

abbrev pub rest : List ℕ → List ℕ
rest [] = []
rest (n ∷ ns) = ns

infixr 50 ◌▸◌
mutual
  pub data Term : Type 0 where
    var : ℕ → Term
    node : Form → Terms → Term

  pub data Terms : Type 0 where
    ε : Terms
    ◌▸◌ : Term → Terms → Terms

abbrev pub size : Terms → ℕ
size ε = 0
size (t ▸ ts) = suc (size ts)

-- what is behind so many
abbrev pub skip : ℕ → Terms → Terms
skip zero ts = ts
skip (suc k) ε = ε
skip (suc k) (t ▸ ts) = skip k ts

infixr 50 ◌+++◌
abbrev pub ◌+++◌ : Terms → Terms → Terms
ε +++ ss = ss
(t ▸ ts) +++ ss = t ▸ (ts +++ ss)

-- the forms, each with its components in order
pattern abbrev pub Sort : ℕ → Term
Sort l = node (Form.sort l) ε

pattern abbrev pub Pi : Mult → Term → Term → Term
Pi q A B = node (Form.pi q) (A ▸ B ▸ ε)

pattern abbrev pub Lam : Mult → Term → Term → Term
Lam q A b = node (Form.lam q) (A ▸ b ▸ ε)

pattern abbrev pub App : Mult → Term → Term → Term
App q f a = node (Form.app q) (f ▸ a ▸ ε)

pattern abbrev pub Fam : GlobalId → Terms → Term
Fam f ts = node (Form.fam f) ts

pattern abbrev pub Delete : Mult → Term → Term → Term → Term → Term → Term
Delete q A s P b e = node (Form.delete q) (A ▸ s ▸ P ▸ b ▸ e ▸ ε)

pattern abbrev pub Def : GlobalId → Term
Def d = node (Form.named (Named.def d)) ε

pattern abbrev pub IntLit : ℤ → Term
IntLit z = node (Form.named (Named.lit (literal.Int z))) ε

pattern abbrev pub TextLit : List ℕ → Term
TextLit s = node (Form.named (Named.lit (literal.Text s))) ε

pattern abbrev pub TypeOf : PrimTy → Terms → Term
TypeOf p ts = node (Form.named (Named.prim_ty p)) ts

pattern abbrev pub Call : Primitive → Terms → Term
Call p ts = node (Form.named (Named.prim p)) ts

pattern abbrev pub Act : Action → ℕ → Terms → Term
Act a k ts = node (Form.named (Named.act a k)) ts

pattern abbrev pub Trap : Term → Term
Trap A = node Form.trap (A ▸ ε)

pattern abbrev pub Tape : ℕ → Term
Tape n = node (Form.tape n) ε

-- whether two ids are the same
abbrev pub same_id : GlobalId → GlobalId → Bool
same_id a b = eqb a.module.0 b.module.0 && eqb a.item b.item
