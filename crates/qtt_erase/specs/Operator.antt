-- Terms without types and multiplicities, over a kind of functions A: those of erased terms, or closures.
use Rattle.std.specs.Prelude.{ℕ, List, [], length}
use Rattle.qtt_base.specs.declared.place.GlobalId.{GlobalId}
use Rattle.qtt_prims.specs.declared.prim.Primitive.{Primitive}
use Rattle.qtt_prims.specs.declared.lit.Lit.{Lit}
use Rattle.qtt_term.specs.Term.{Action}
use Rattle.qtt_erase.specs.Binding.{Tree, Trees, ∅, ◌◂◌}

pub data Operator (A : Type 0) : Type 0 where
  -- a function
  function : A → Operator A
  -- a function at its argument, and a function without one at none
  app force : Operator A
  def : GlobalId → Operator A
  -- its tag, which is the constructor's place in its family
  con : ℕ → Operator A
  -- how many binders each branch stands under; the scrutinee stands behind the branches
  case : List ℕ → Operator A
  lit : Lit → Operator A
  prim : Primitive → Operator A
  act : Action → Operator A
  trap : Operator A
  -- whatever was a type
  ty : Operator A
  tape : ℕ → Operator A

abbrev pub binders_of : {A : Type 0} → (A → List ℕ) → Operator A → List ℕ
binders_of own (Operator.function a) = own a
binders_of own (Operator.case ns) = ns
binders_of own _ = []

-- how many of the first components wait: those of a function that do, and the branches of a Case. The others are
-- evaluated
abbrev pub waiting_of : {A : Type 0} → (A → ℕ) → Operator A → ℕ
waiting_of own (Operator.function a) = own a
waiting_of own (Operator.case ns) = length ns
waiting_of own _ = 0

abbrev pub Code : Type 0 → Type 0
Code A = Tree (Operator A)

abbrev pub Codes : Type 0 → Type 0
Codes A = Trees (Operator A)

-- the forms, each with its components in order
pattern abbrev pub App : {A : Type 0} → Code A → Code A → Code A
App f a = Tree.node Operator.app (f ◂ a ◂ ∅)

pattern abbrev pub Force : {A : Type 0} → Code A → Code A
Force f = Tree.node Operator.force (f ◂ ∅)

pattern abbrev pub Def : {A : Type 0} → GlobalId → Code A
Def d = Tree.node (Operator.def d) ∅

pattern abbrev pub Con : {A : Type 0} → ℕ → Codes A → Code A
Con c ts = Tree.node (Operator.con c) ts

pattern abbrev pub Literal : {A : Type 0} → Lit → Code A
Literal l = Tree.node (Operator.lit l) ∅

pattern abbrev pub Call : {A : Type 0} → Primitive → Codes A → Code A
Call p ts = Tree.node (Operator.prim p) ts

pattern abbrev pub Act : {A : Type 0} → Action → Codes A → Code A
Act a ts = Tree.node (Operator.act a) ts

pattern abbrev pub Trap : {A : Type 0} → Code A
Trap = Tree.node Operator.trap ∅

pattern abbrev pub Ty : {A : Type 0} → Code A
Ty = Tree.node Operator.ty ∅

pattern abbrev pub Tape : {A : Type 0} → ℕ → Code A
Tape n = Tree.node (Operator.tape n) ∅
