-- The code of an environment, and which of its values and states stand for which core terms.
use Rattle.std.specs.Prelude.{◌≡◌, ℕ, List, [], Some, Contains}
use Rattle.qtt_base.specs.declared.place.GlobalId.{GlobalId}
use Rattle.qtt_term.specs.Term.{Term}
use Rattle.qtt_term.specs.Signature.{Env}
use Rattle.qtt_erase.specs.Lean.{Lean}
use Rattle.qtt_erase.specs.Erasure.{erase, erased_bodies}
use Rattle.qtt_closure.specs.StandsFor.{StandsFor}
use Rattle.qtt_code.specs.Value.{Value}
use Rattle.qtt_code.specs.Instruction.{Program}
use Rattle.qtt_code.specs.Machine.{State}
use Rattle.qtt_lower.specs.Programs.{bodies, flat_program, bases, entry, program}
use Rattle.qtt_lower.specs.Evaluation.{Runs}
use Rattle.qtt_lower.specs.Represents.{flat_value}

-- the definitions that have code are among these
abbrev pub Lists : Env → List GlobalId → Type 0
Lists E ds = (d : GlobalId) (t : Lean) → erased_bodies E d ≡ Some t → Contains ds d

-- the program of these definitions, and the first block of one
abbrev pub code : Env → List GlobalId → Program
code E ds = program (bodies E ds)

abbrev pub first_block : Env → List GlobalId → GlobalId → ℕ
first_block E ds = entry (bases (bodies E ds))

-- a value of this program stands for the erasure of a closed term
abbrev pub IsValueOf : Env → List GlobalId → Term → Value → Type 0
IsValueOf E ds t v = StandsFor (flat_program (bodies E ds)) (erase E [] t) (flat_value v)

-- and a state
abbrev pub Represents : Env → List GlobalId → Term → State → Type 0
Represents E ds t s = Runs (first_block E ds) (flat_program (bodies E ds)) (erase E [] t) s
