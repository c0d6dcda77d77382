-- Evaluation: call by value, left to right, by substitution.
use Rattle.std.specs.Prelude.{ℕ, zero, suc, List, [], ◌∷◌, Option, Some, None, Bool, true, false, cond, eqb}
use Rattle.qtt_base.specs.declared.place.GlobalId.{GlobalId}
use Rattle.qtt_prims.specs.declared.prim.Primitive.{Primitive}
use Rattle.qtt_prims.specs.declared.lit.Lit.{Lit}
use Rattle.qtt_prims.specs.declared.answer.PrimAnswer.{PrimAnswer}
use Rattle.qtt_prims.specs.declared.answer.PrimAnswer.TheVariants as answer
use Rattle.qtt_prims.specs.Apply.{apply}
use Rattle.qtt_term.specs.Contraction.{chain}
use Rattle.qtt_term.specs.FullStep.{Cause}
use Rattle.qtt_erase.specs.Binding.{Tree, ∅, ◌◂◌, size, push, sub}
use Rattle.qtt_erase.specs.Operator.{Operator, binders_of, waiting_of, Code, Codes, Con, Literal}

-- what functions of kind A are: under how many binders their components stand, how many of these wait, what a
-- call with an argument gives, and what one without gives
pub record Functions (A : Type 0) : Type 0 where
  pub binders : A → List ℕ
  pub waiting : A → ℕ
  pub called : A → Codes A → Code A → Option (Code A)
  pub forced : A → Codes A → Option (Code A)

-- the bodies of definitions
abbrev pub Bodies : Type 0 → Type 0
Bodies A = GlobalId → Option (Code A)

-- what one step of evaluation answers
pub data Outcome (T : Type 0) : Type 0 where
  value : Outcome T
  step : T → Outcome T
  trap : Cause → Outcome T
  stuck : Outcome T

-- a tag and fields
pub data Made (A : Type 0) : Type 0 where
  made : ℕ → Codes A → Made A

module _ {A : Type 0} where
  abbrev pub as_con : Code A → Option (Made A)
  as_con (Tree.node (Operator.con c) ts) = Some (Made.made c ts)
  as_con _ = None

  -- what follows the branches
  abbrev pub scrutinee : List ℕ → Codes A → Option (Code A)
  scrutinee [] (s ◂ ∅) = Some s
  scrutinee (n ∷ ns) (b ◂ ts) = scrutinee ns ts
  scrutinee _ _ = None

  abbrev pub as_lit : Code A → Option Lit
  as_lit (Tree.node (Operator.lit l) ∅) = Some l
  as_lit _ = None

  abbrev pub literals : Codes A → Option (List Lit)
  literals ∅ = Some []
  literals (t ◂ ts) = chain (as_lit t) (λ l. chain (literals ts) (λ ls. Some (l ∷ ls)))

  abbrev pub truth : Bool → Code A
  truth false = Con 0 ∅
  truth true = Con 1 ∅

  -- a component that is done with, before others
  abbrev pub behind : Code A → Outcome (Codes A) → Outcome (Codes A)
  behind t Outcome.value = Outcome.value
  behind t (Outcome.step ss) = Outcome.step (t ◂ ss)
  behind t (Outcome.trap k) = Outcome.trap k
  behind t Outcome.stuck = Outcome.stuck

  -- a component before others, which wait until it is a value
  abbrev pub before : Outcome (Code A) → Code A → Codes A → Outcome (Codes A) → Outcome (Codes A)
  before Outcome.value t ts r = behind t r
  before (Outcome.step s) t ts r = Outcome.step (s ◂ ts)
  before (Outcome.trap k) t ts r = Outcome.trap k
  before Outcome.stuck t ts r = Outcome.stuck

  abbrev pub contracts_to : Option (Code A) → Outcome (Code A)
  contracts_to (Some t) = Outcome.step t
  contracts_to None = Outcome.stuck

  -- a primitive's answer; a division by 0 traps
  abbrev pub answers : PrimAnswer → Outcome (Code A)
  answers (answer.Value l) = Outcome.step (Literal l)
  answers (answer.Truth b) = Outcome.step (truth b)
  answers answer.DivisionByZero = Outcome.trap Cause.division_by_zero
  answers answer.IllTyped = Outcome.stuck

  abbrev pub primitive : Primitive → Option (List Lit) → Outcome (Code A)
  primitive p None = Outcome.stuck
  primitive p (Some ls) = answers (apply p ls)

-- ---- the contractions, each one step
module _ {A : Type 0} (K : Functions A) where
  abbrev pub beta : Codes A → Option (Code A)
  beta (Tree.node (Operator.function f) ts ◂ a ◂ ∅) = K.called f ts a
  beta _ = None

  abbrev pub forcing : Codes A → Option (Code A)
  forcing (Tree.node (Operator.function f) ts ◂ ∅) = K.forced f ts
  forcing _ = None

  -- the branch with this tag, which stands under as many binders as there are fields, with the fields in their
  -- place
  abbrev pub branch_at : ℕ → List ℕ → Codes A → Codes A → Option (Code A)
  branch_at zero (n ∷ ns) (b ◂ ts) fs =
      cond (eqb (size fs) n) (Some (sub (binders_of K.binders) (push fs Tree.var) b)) None
  branch_at (suc c) (n ∷ ns) (b ◂ ts) fs = branch_at c ns ts fs
  branch_at _ _ _ fs = None

  abbrev pub select : List ℕ → Codes A → Made A → Option (Code A)
  select ns ts (Made.made c fs) = branch_at c ns ts fs

  -- of branches and a scrutinee
  abbrev pub iota : List ℕ → Codes A → Option (Code A)
  iota ns ts = chain (scrutinee ns ts) (λ s. chain (as_con s) (select ns ts))

module _ {A : Type 0} (K : Functions A) (B : Bodies A) where
  -- an operator whose evaluated components are values
  abbrev pub itself : Operator A → Codes A → Outcome (Code A)
  itself Operator.app ts = contracts_to (beta K ts)
  itself Operator.force ts = contracts_to (forcing K ts)
  itself (Operator.def d) ts = contracts_to (B d)
  itself (Operator.case ns) ts = contracts_to (iota K ns ts)
  itself (Operator.prim p) ts = primitive p (literals ts)
  itself Operator.trap ts = Outcome.trap Cause.missing_clause
  itself _ ts = Outcome.value

  abbrev pub finish : Operator A → Codes A → Outcome (Codes A) → Outcome (Code A)
  finish F ts Outcome.value = itself F ts
  finish F ts (Outcome.step ss) = Outcome.step (Tree.node F ss)
  finish F ts (Outcome.trap k) = Outcome.trap k
  finish F ts Outcome.stuck = Outcome.stuck

  abbrev mutual
    pub next : Code A → Outcome (Code A)
    next (Tree.var i) = Outcome.stuck
    next (Tree.node F ts) = finish F ts (nexts (waiting_of K.waiting F) ts)

    -- after so many components that wait
    pub nexts : ℕ → Codes A → Outcome (Codes A)
    nexts n ∅ = Outcome.value
    nexts (suc n) (t ◂ ts) = behind t (nexts n ts)
    nexts zero (t ◂ ts) = before (next t) t ts (nexts zero ts)
