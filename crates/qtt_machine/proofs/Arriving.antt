-- Runs of so many ticks, by what comes without a tick behind them.
use Rattle.std.proofs.Common.{◌≡◌, ℕ, suc, ◌+◌, ◌≤◌, refl, subst, arith}
use Rattle.qtt_code.specs.Instruction.{Program}
use Rattle.qtt_code.specs.Machine.{State, Did, Reaches}
use Rattle.qtt_value.specs.declared.val.Val.{Val}
use Rattle.qtt_value.specs.View.{value}
use Rattle.qtt_machine.specs.declared.event.TrapKind.{TrapKind}
use Rattle.qtt_machine.specs.declared.event.Halt.{Halt}
use Rattle.qtt_machine.specs.declared.event.Halt.TheVariants as halted
use Rattle.qtt_machine.specs.declared.frames.Frames as code_frames
use Rattle.qtt_machine.specs.View.{state}
use Rattle.qtt_machine.specs.Events.{cause}
use Rattle.qtt_machine.specs.Halting.{Arrives, AtHalt, Ran}
use Rattle.qtt_machine.proofs.Reaching.{then_on, then_ticks, ends_done, traps_trapped, ticks_spent}

module _ (P : Program) (s r : State) (made : ℕ) (way : Reaches P made s r) where
  pub one_more : (t : State) → Arrives P r (Did.ticks t) → Reaches P (made + 1) s t
  one_more t a = let e : suc made ≡ made + 1 =
      omega arith in subst (λ n. Reaches P n s t) e (then_ticks P (then_on P way a.way) a.is)

  pub ran_to_end : (bound : ℕ) → made ≤ bound → (v : Val) (m : code_frames.Frames) →
      Arrives P r (Did.ends (value v)) → Ran P s bound (halted.Done v) made m
  ran_to_end bound within v m a =
      record {
        run = ends_done P bound made s a.last (value v) (then_on P way a.way) within a.is;
        count = refl;
        rest = tt;
      }

  pub ran_to_trap : (bound : ℕ) → made ≤ bound → (k : TrapKind) (m : code_frames.Frames) →
      Arrives P r (Did.traps (cause k)) → Ran P s bound (halted.Trap k) made m
  ran_to_trap bound within k m a =
      record {
        run = traps_trapped P bound made s a.last (cause k) (then_on P way a.way) within a.is;
        count = refl;
        rest = tt;
      }

  pub ran_up : (h : Halt) (m : code_frames.Frames) → AtHalt P r h m → Ran P s made h made m
  ran_up (halted.Done v) m a = ran_to_end made (omega arith) v m a
  ran_up (halted.Trap k) m a = ran_to_trap made (omega arith) k m a
  ran_up halted.Spent m a =
      record {
        run = ticks_spent P made s (state m) a.next (then_on P way a.way) a.ticks;
        count = refl;
        rest = (refl, a.ready);
      }
