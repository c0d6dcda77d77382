-- Which instructions are ticks.
use Rattle.std.specs.Prelude.{◌≡◌, Bool, true, false}
use Rattle.qtt_prims.specs.declared.prim.Primitive.{Primitive}
use Rattle.qtt_prims.specs.declared.prim.Primitive.TheVariants.{AddInt, SubInt, MulInt, DivInt, ModInt, EqInt, LtInt, AppendString, EqString, ShowInt}
use Rattle.qtt_term.specs.FullStep.{Cause}
use Rattle.qtt_code.specs.Instruction.{Instr, Program}
use Rattle.qtt_code.specs.Machine.{State, Did, instruction}

-- a call, a force, an enter, a primitive or a switch
abbrev pub is_tick : Instr → Bool
is_tick (Instr.local k) = false
is_tick (Instr.captured k) = false
is_tick (Instr.literal l) = false
is_tick Instr.type = false
is_tick (Instr.closure b k) = false
is_tick (Instr.con c k) = false
is_tick (Instr.action a k) = false
is_tick (Instr.call o) = true
is_tick (Instr.force o) = true
is_tick (Instr.enter o b) = true
is_tick (Instr.prim p) = true
is_tick (Instr.switch qs) = true
is_tick (Instr.leave k) = false
is_tick (Instr.jump q) = false
is_tick Instr.return = false
is_tick Instr.trap = false

-- a division or a remainder
abbrev pub IsDivision : Primitive → Type 0
IsDivision DivInt = Unit {0}
IsDivision ModInt = Unit {0}
IsDivision AddInt = ⊥
IsDivision SubInt = ⊥
IsDivision MulInt = ⊥
IsDivision EqInt = ⊥
IsDivision LtInt = ⊥
IsDivision AppendString = ⊥
IsDivision EqString = ⊥
IsDivision ShowInt = ⊥

-- a primitive makes a tick, or divides by 0
abbrev pub TicksOr : Did → Bool → Type 0
TicksOr d true = (t : State) × (d ≡ Did.ticks t)
TicksOr d false = d ≡ Did.traps Cause.division_by_zero

-- whether the next instruction makes a tick
abbrev pub NextTicks : Program → State → Bool → Type 0
NextTicks P s true = (t : State) × (instruction P s ≡ Did.ticks t)
NextTicks P s false = (t : State) → instruction P s ≡ Did.ticks t → ⊥
