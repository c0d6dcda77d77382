-- Worked examples of the machine.
use Rattle.std.specs.Prelude.{◌≡◌, ℕ, pos, List, [], ◌∷◌, codes}
use Rattle.qtt_prims.specs.declared.prim.Primitive.TheVariants as prim
use Rattle.qtt_prims.specs.declared.lit.Lit.TheVariants as lit
use Rattle.qtt_term.specs.Term.{Action}
use Rattle.qtt_term.specs.FullStep.{Cause}
use Rattle.qtt_term.specs.Programs.{item}
use Rattle.qtt_code.specs.Value.{Value, Values, ◌▹◌}
use Rattle.qtt_code.specs.Instruction.{Position, Instr, Block, Program}
use Rattle.qtt_code.specs.Machine.{State, Did, Halt, instruction, Reaches, Advances, start, called}

abbrev pub number : ℕ → Value
number n = Value.literal (lit.Int (pos n))

abbrev pub int : ℕ → Instr
int n = Instr.literal (lit.Int (pos n))

abbrev pub plain : ℕ → List Instr → Block
plain takes code = record { owner = item 0; captured = 0; takes = takes; code = code }

abbrev pub EndsAfter : Program → ℕ → State → Value → Type 0
EndsAfter P n s v = (r : State) × Reaches P n s r × (instruction P r ≡ Did.ends v)

abbrev pub TrapsAfter : Program → ℕ → State → Cause → Type 0
TrapsAfter P n s k = (r : State) × Reaches P n s r × (instruction P r ≡ Did.traps k)

-- id x = x; main = putLine (showInt (id 3))
abbrev pub identity : Program
identity =
    plain 0 (Instr.closure 1 0 ∷ Instr.return ∷ [])
    ∷ plain 1 (Instr.local 0 ∷ Instr.return ∷ [])
    ∷ plain 0 (
    Instr.enter Position.inner 0
    ∷ int 3
    ∷ Instr.call Position.inner
    ∷ Instr.prim prim.ShowInt
    ∷ Instr.action Action.put_line 1
    ∷ Instr.return ∷ []) ∷ []

-- a Case that is no tail: its branch drops its field, and the number below stays
abbrev pub branching : Program
branching =
    plain 0 (
    int 1
    ∷ int 5
    ∷ Instr.con 0 1
    ∷ Instr.switch (4 ∷ 7 ∷ [])
    ∷ Instr.local 0
    ∷ Instr.leave 1
    ∷ Instr.jump 8
    ∷ int 0
    ∷ Instr.prim prim.AddInt
    ∷ Instr.return ∷ []) ∷ []

abbrev pub dividing : Program
dividing = plain 0 (int 1 ∷ int 0 ∷ Instr.prim prim.DivInt ∷ Instr.return ∷ []) ∷ []

-- a function that captured a value and one that awaits nothing
abbrev pub capturing : Program
capturing =
    record {
      owner = item 0;
      captured = 1;
      takes = 1;
      code = Instr.captured 0 ∷ Instr.local 0 ∷
          Instr.prim prim.SubInt ∷ Instr.return ∷ [];
    }
    ∷ plain 0 (Instr.trap ∷ []) ∷ plain 0 (Instr.closure 1 0 ∷ Instr.force Position.tail ∷ []) ∷
    plain 0 (Instr.enter Position.tail 3 ∷ []) ∷ []

pub record MachineRows : Type 0 where
  -- the definitions main and id, the call and the primitive are a tick each
  pub identity_ends : EndsAfter identity 4 (start 2)
      (Value.action Action.put_line (Value.literal (lit.Text (codes "3")) ▹ Values.none))
  pub identity_is_spent : Advances identity 3 (start 2) Halt.spent
  pub branch_ends : EndsAfter branching 3 (start 0) (number 6)
  pub division_traps : TrapsAfter dividing 1 (start 0) Cause.division_by_zero
  pub call_ends : EndsAfter capturing 2 (called (Value.closure 0 (number 7 ▹ Values.none)) (number 3)) (number 4)
  pub force_traps : TrapsAfter capturing 2 (start 2) Cause.missing_clause
  pub loop_is_spent : Advances capturing 5 (start 3) Halt.spent
