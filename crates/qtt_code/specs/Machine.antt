-- The machine: what one instruction does to frames. A tick is a call, a force, an enter, a primitive or a switch.
use Rattle.std.specs.Prelude.{◌≡◌, ℕ, zero, suc, ◌-◌, ◌≤◌, List, [], ◌∷◌, ◌++◌, length, take, slice_get, Option, Some, None, Bool, true, false}
use Rattle.qtt_prims.specs.declared.prim.Primitive.{Primitive}
use Rattle.qtt_prims.specs.declared.prim.Primitive.TheVariants.{ShowInt}
use Rattle.qtt_prims.specs.declared.lit.Lit.{Lit}
use Rattle.qtt_prims.specs.declared.answer.PrimAnswer.{PrimAnswer}
use Rattle.qtt_prims.specs.declared.answer.PrimAnswer.TheVariants as answer
use Rattle.qtt_prims.specs.Apply.{apply}
use Rattle.qtt_term.specs.Contraction.{chain}
use Rattle.qtt_term.specs.FullStep.{Cause}
use Rattle.qtt_code.specs.Value.{Value, Values, ◌▹◌, listed}
use Rattle.qtt_code.specs.Instruction.{Position, Instr, Block, Program}

-- a block's instructions and the place of the next one; the captured values and the locals, the oldest first; and
-- what was pushed, the newest first
pub record Frame : Type 0 where
  pub code : List Instr
  pub place : ℕ
  pub captured : List Value
  pub locals : List Value
  pub pushed : List Value

-- the frame that runs, and those that wait for its value, the newest first
pub record State : Type 0 where
  pub frame : Frame
  pub waiting : List Frame

-- what one instruction does
pub data Did : Type 0 where
  -- the machine goes on, without a tick or with one
  goes ticks : State → Did
  -- the last frame gave this value back
  ends : Value → Did
  traps : Cause → Did
  stuck : Did

-- ---- frames
abbrev pub moved : ℕ → Frame → Frame
moved p f = record f { place = p }

abbrev pub onward : Frame → Frame
onward f = moved (suc f.place) f

abbrev pub left_with : List Value → Frame → Frame
left_with vs f = record f { pushed = vs }

abbrev pub with_locals : List Value → Frame → Frame
with_locals vs f = record f { locals = vs }

-- a value on top of what is left
abbrev pub pushing : Value → List Value → Frame → Frame
pushing v vs f = onward (left_with (v ∷ vs) f)

abbrev pub in_frame : Frame → State → State
in_frame f s = record s { frame = f }

-- ---- what is pushed
abbrev pub pushes : Option Value → State → Did
pushes None s = Did.stuck
pushes (Some v) s = Did.goes (in_frame (pushing v s.frame.pushed s.frame) s)

-- values that were taken, the oldest first, and what is left
pub record Taken : Type 0 where
  pub values : Values
  pub left : List Value

-- so many values taken, in front of others that were taken before
abbrev pub taken : ℕ → Values → List Value → Option Taken
taken zero vs left = Some (record { values = vs; left = left })
taken (suc k) vs [] = None
taken (suc k) vs (v ∷ left) = taken k (v ▹ vs) left

abbrev pub makes : (Values → Value) → Option Taken → State → Did
makes made None s = Did.stuck
makes made (Some t) s = Did.goes (in_frame (pushing (made t.values) t.left s.frame) s)

-- ---- blocks that are entered
abbrev pub begin : Block → List Value → List Value → Frame
begin B captured locals = record { code = B.code; place = 0; captured = captured; locals = locals; pushed = [] }

-- a frame waits behind its call; in tail position it is left
abbrev pub suspended : Position → Frame → List Frame → List Frame
suspended Position.inner f fs = onward f ∷ fs
suspended Position.tail f fs = fs

abbrev pub enters : Position → Option Block → List Value → List Value → State → Did
enters o None captured locals s = Did.stuck
enters o (Some B) captured locals s =
    Did.ticks (record { frame = begin B captured locals; waiting = suspended o s.frame s.waiting })

abbrev pub calls : Program → Position → List Value → State → Did
calls P o (a ∷ Value.closure b vs ∷ left) s =
    enters o (slice_get P b) (listed vs) (a ∷ []) (in_frame (left_with left s.frame) s)
calls P o _ s = Did.stuck

abbrev pub forces : Program → Position → List Value → State → Did
forces P o (Value.closure b vs ∷ left) s = enters o (slice_get P b) (listed vs) [] (in_frame (left_with left s.frame) s)
forces P o _ s = Did.stuck

-- ---- primitives
abbrev pub arity : Primitive → ℕ
arity ShowInt = 1
arity _ = 2

abbrev pub as_literal : Value → Option Lit
as_literal (Value.literal l) = Some l
as_literal _ = None

abbrev pub literals : Values → Option (List Lit)
literals Values.none = Some []
literals (v ▹ vs) = chain (as_literal v) (λ l. chain (literals vs) (λ ls. Some (l ∷ ls)))

abbrev pub truth : Bool → Value
truth false = Value.con 0 Values.none
truth true = Value.con 1 Values.none

abbrev pub answers : PrimAnswer → List Value → State → Did
answers (answer.Value l) left s = Did.ticks (in_frame (pushing (Value.literal l) left s.frame) s)
answers (answer.Truth b) left s = Did.ticks (in_frame (pushing (truth b) left s.frame) s)
answers answer.DivisionByZero left s = Did.traps Cause.division_by_zero
answers answer.IllTyped left s = Did.stuck

abbrev pub applies : Primitive → Option (List Lit) → List Value → State → Did
applies p None left s = Did.stuck
applies p (Some ls) left s = answers (apply p ls) left s

abbrev pub computes : Primitive → Option Taken → State → Did
computes p None s = Did.stuck
computes p (Some t) s = applies p (literals t.values) t.left s

-- ---- branches
abbrev pub branches : Option ℕ → Values → List Value → State → Did
branches None vs left s = Did.stuck
branches (Some q) vs left s =
    Did.ticks (in_frame (moved q (with_locals (s.frame.locals ++ listed vs) (left_with left s.frame))) s)

abbrev pub switches : List ℕ → List Value → State → Did
switches qs (Value.con c vs ∷ left) s = branches (slice_get qs c) vs left s
switches qs _ s = Did.stuck

-- ---- values given back
abbrev pub returns_to : Value → List Frame → Did
returns_to v [] = Did.ends v
returns_to v (f ∷ fs) = Did.goes (record { frame = left_with (v ∷ f.pushed) f; waiting = fs })

abbrev pub returns : List Value → List Frame → Did
returns [] fs = Did.stuck
returns (v ∷ vs) fs = returns_to v fs

-- ---- one instruction
abbrev pub does : Program → Option Instr → State → Did
does P None s = Did.stuck
does P (Some (Instr.local k)) s = pushes (slice_get s.frame.locals k) s
does P (Some (Instr.captured k)) s = pushes (slice_get s.frame.captured k) s
does P (Some (Instr.literal l)) s = pushes (Some (Value.literal l)) s
does P (Some Instr.type) s = pushes (Some Value.type) s
does P (Some (Instr.closure b k)) s = makes (Value.closure b) (taken k Values.none s.frame.pushed) s
does P (Some (Instr.con c k)) s = makes (Value.con c) (taken k Values.none s.frame.pushed) s
does P (Some (Instr.action a k)) s = makes (Value.action a) (taken k Values.none s.frame.pushed) s
does P (Some (Instr.call o)) s = calls P o s.frame.pushed s
does P (Some (Instr.force o)) s = forces P o s.frame.pushed s
does P (Some (Instr.enter o b)) s = enters o (slice_get P b) [] [] s
does P (Some (Instr.prim p)) s = computes p (taken (arity p) Values.none s.frame.pushed) s
does P (Some (Instr.switch qs)) s = switches qs s.frame.pushed s
does P (Some (Instr.leave k)) s =
    Did.goes (in_frame (onward (with_locals (take (length s.frame.locals - k) s.frame.locals) s.frame)) s)
does P (Some (Instr.jump q)) s = Did.goes (in_frame (moved q s.frame) s)
does P (Some Instr.return) s = returns s.frame.pushed s.waiting
does P (Some Instr.trap) s = Did.traps Cause.missing_clause

abbrev pub instruction : Program → State → Did
instruction P s = does P (slice_get s.frame.code s.frame.place) s

-- ---- runs: so many ticks, and whatever instructions stand between them
pub data Reaches (P : Program) : ℕ → State → State → Type 0 where
  here : {s : State} → Reaches P 0 s s
  goes : {n : ℕ} {s t r : State} → instruction P s ≡ Did.goes t → Reaches P n t r → Reaches P n s r
  ticks : {n : ℕ} {s t r : State} → instruction P s ≡ Did.ticks t → Reaches P n t r → Reaches P (suc n) s r

-- where a run stops that may make only so many ticks
pub data Halt : Type 0 where
  done : Value → Halt
  trapped : Cause → Halt
  spent : Halt

-- after so many ticks of the bound, by what the next instruction does
abbrev pub Stops : ℕ → ℕ → Did → Halt → Type 0
Stops bound made (Did.ends v) h = h ≡ Halt.done v
Stops bound made (Did.traps k) h = h ≡ Halt.trapped k
Stops bound made (Did.ticks t) h = (h ≡ Halt.spent) × (made ≡ bound)
Stops bound made (Did.goes t) h = ⊥
Stops bound made Did.stuck h = ⊥

pub record Advances (P : Program) (bound : ℕ) (s : State) (h : Halt) : Type 0 where
  pub made : ℕ
  pub last : State
  pub way : Reaches P made s last
  pub within : made ≤ bound
  pub stops : Stops bound made (instruction P last) h

-- ---- where a run begins: a definition's block is entered, or a function is called at an argument
abbrev pub alone : List Instr → List Value → State
alone code pushed = record
    { frame = record { code = code; place = 0; captured = []; locals = []; pushed = pushed }; waiting = [] }

abbrev pub start : ℕ → State
start b = alone (Instr.enter Position.tail b ∷ []) []

abbrev pub called : Value → Value → State
called f a = alone (Instr.call Position.tail ∷ []) (a ∷ f ∷ [])
