-- Erased terms: what carries no content at run time is gone, which is multiplicities, types, parameters, and
-- arguments and fields at 0.
use Rattle.std.specs.Prelude.{ℕ, List, [], ◌∷◌, Option, Some, None}
use Rattle.qtt_erase.specs.Binding.{Tree, ∅, ◌◂◌, inst}
use Rattle.qtt_erase.specs.Operator.{Operator, binders_of, Code, Codes}
use Rattle.qtt_erase.specs.Step.{Functions, Bodies, Outcome, next}

-- a function with an argument, and one without, which keeps its body from being evaluated before it is forced
pub data Abstraction : Type 0 where
  fun thunk : Abstraction

abbrev pub Lean : Type 0
Lean = Code Abstraction

abbrev pub Leans : Type 0
Leans = Codes Abstraction

pattern abbrev pub Fun : Lean → Lean
Fun b = Tree.node (Operator.function Abstraction.fun) (b ◂ ∅)

pattern abbrev pub Thunk : Lean → Lean
Thunk b = Tree.node (Operator.function Abstraction.thunk) (b ◂ ∅)

abbrev pub body_binders : Abstraction → List ℕ
body_binders Abstraction.fun = 1 ∷ []
body_binders Abstraction.thunk = 0 ∷ []

abbrev pub binders : Operator Abstraction → List ℕ
binders = binders_of body_binders

abbrev pub call : Abstraction → Leans → Lean → Option Lean
call Abstraction.fun (b ◂ ∅) a = Some (inst binders b a)
call _ _ a = None

abbrev pub force : Abstraction → Leans → Option Lean
force Abstraction.thunk (b ◂ ∅) = Some b
force _ _ = None

-- a body waits
abbrev pub abstractions : Functions Abstraction
abstractions = record { binders = body_binders; waiting = λ a. 1; called = call; forced = force }

-- one step of an erased term, where definitions have these erased bodies
abbrev pub lean_step : Bodies Abstraction → Lean → Outcome Lean
lean_step = next abstractions
