-- Frames that stand at the beginning of an evaluation.
use Rattle.std.proofs.Common.{◌≡◌, ℕ, zero, suc, [], ◌∷◌, sym, subst}
use Rattle.std.proofs.lemmas.Option.{none-some, same_Some}
use Rattle.qtt_code.specs.Value.{Value}
use Rattle.qtt_code.specs.Instruction.{Position, Instr, Program}
use Rattle.qtt_code.specs.Machine.{State, start, called}
use Rattle.qtt_code.specs.Forward.{JumpsForward, AllJumpForward}
use Rattle.qtt_machine.specs.declared.frames.Frames as code_frames
use Rattle.qtt_machine.specs.View.{state}
use Rattle.qtt_machine.specs.Runs.{Answers}
use Rattle.qtt_machine.specs.Forward.{StateJumpsForward}
use Rattle.qtt_machine.specs.Halting.{MayRun}

one-instruction : (i : Instr) → ((q : ℕ) → i ≡ Instr.jump q → ⊥) → JumpsForward (i ∷ [])
one-instruction i n zero q e = absurd (n q (same_Some i (Instr.jump q) e))
one-instruction i n (suc k) q e = absurd (none-some (Instr.jump q) e)

pub start_jumps_forward : (b : ℕ) → StateJumpsForward (start b)
start_jumps_forward b = (one-instruction (Instr.enter Position.tail b) (λ q e. cc (e)), tt)

pub call_jumps_forward : (f a : Value) → StateJumpsForward (called f a)
call_jumps_forward f a = (one-instruction (Instr.call Position.tail) (λ q e. cc (e)), tt)

pub may_begin : (P : Program) (s : State) (m : code_frames.Frames) → state m ≡ s → StateJumpsForward s →
    AllJumpForward P → Answers P s → MayRun P m
may_begin P s m at forward jumps answers =
    record {
      jumps = jumps;
      forward = subst StateJumpsForward (sym at) forward;
      answers = subst (Answers P) (sym at) answers;
    }
