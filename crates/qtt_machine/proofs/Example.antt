-- The runs of the small program, computed.
use Rattle.std.proofs.Common.{◌≡◌, refl, subst, arith}
use Rattle.qtt_code.specs.Value.{Value, Values, ◌▹◌}
use Rattle.qtt_code.specs.Instruction.{Program}
use Rattle.qtt_code.specs.Machine.{State, Halt, Reaches, Advances, start, called}
use Rattle.qtt_code.specs.Rows.{EndsAfter, number}
use Rattle.qtt_code.proofs.Halting.{halts-are-unique}
use Rattle.qtt_machine.specs.Runs.{Answers}
use Rattle.qtt_machine.specs.Examples.{closing}
use Rattle.qtt_machine.proofs.Reaching.{ends_done}
use Rattle.qtt_machine.proofs.Halted.{ended_answers}

-- the closure that is given back
abbrev closed : Value
closed = Value.closure 1 (number 7 ▹ Values.none)

closing-ends : EndsAfter closing 1 (start 0) closed
closing-ends = (_, Reaches.ticks refl (Reaches.goes refl (Reaches.goes refl Reaches.here)), refl)

call-ends : EndsAfter closing 2 (called closed (number 3)) (number 4)
call-ends = (_, Reaches.ticks refl (Reaches.goes refl (Reaches.goes refl (Reaches.ticks refl Reaches.here))), refl)

pub closing_answers : Answers closing (start 0)
closing_answers = ended_answers closing 1 (start 0) closed closing-ends

is-closed : (v : Value) → Advances closing 5 (start 0) (Halt.done v) → v ≡ closed
is-closed v a =
    let b = ends_done closing 5 1 (start 0) closing-ends.0 closed closing-ends.1 (omega arith) closing-ends.2 in
    let e = (halts-are-unique closing 5 (start 0) (Halt.done v) (Halt.done closed) a b).0 in
    cc

-- a call of what the program gave back
pub call_answers : (P : Program) (s : State) (v a : Value) → P ≡ closing → s ≡ start 0 → a ≡ number 3 →
    Advances P 5 s (Halt.done v) → Answers P (called v a)
call_answers P s v a p q e advanced =
    let x = subst (λ s. Advances closing 5 s (Halt.done v)) q (subst (λ P. Advances P 5 s (Halt.done v)) p advanced) in
    rw (p, e, is-closed v x) (ended_answers closing 2 (called closed (number 3)) (number 4) call-ends)
