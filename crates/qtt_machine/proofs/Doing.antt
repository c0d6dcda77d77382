-- What an instruction that is not stuck finds.
use Rattle.std.proofs.Common.{◌≡◌, ℕ, zero, suc, ◌<◌, ◌≤◌, List, [], ◌∷◌, length, refl, arith}
use Rattle.std.specs.List.{slice_get}
use Rattle.qtt_code.specs.Value.{Value, Values, ◌▹◌}
use Rattle.qtt_code.specs.Instruction.{Instr, Program}
use Rattle.qtt_code.specs.Machine.{State, Did, taken, does, instruction, makes}
use Rattle.qtt_machine.specs.Stacks.{IsWithin}

does-within : (P : Program) (is : List Instr) (k : ℕ) (s : State) → ¬ (does P (slice_get is k) s ≡ Did.stuck) →
    k < length is
does-within P [] k s h = absurd (h refl)
does-within P (i ∷ is) zero s h = omega arith
does-within P (i ∷ is) (suc k) s h = let p = does-within P is k s h in omega (arith, p)

pub is_within : (P : Program) (s : State) → ¬ (instruction P s ≡ Did.stuck) → IsWithin s
is_within P s h = does-within P s.frame.code s.frame.place s h

pub makes_within : (made : Values → Value) (k : ℕ) (vs : Values) (xs : List Value) (s : State) →
    ¬ (makes made (taken k vs xs) s ≡ Did.stuck) → k ≤ length xs
makes_within made zero vs xs s h = omega arith
makes_within made (suc k) vs [] s h = absurd (h refl)
makes_within made (suc k) vs (x ∷ xs) s h = let p = makes_within made k (x ▹ vs) xs s h in omega (arith, p)
