-- A run that ends or traps answers each bound.
use Rattle.std.proofs.Common.{◌≡◌, ℕ, zero, suc, ◌<◌, ◌≤◌, ◌⊎◌, inl, inr, arith}
use Rattle.qtt_code.specs.Value.{Value}
use Rattle.qtt_term.specs.FullStep.{Cause}
use Rattle.qtt_code.specs.Instruction.{Program}
use Rattle.qtt_code.specs.Machine.{State, Did, Halt, instruction, Reaches, Advances}
use Rattle.qtt_code.specs.Rows.{EndsAfter, TrapsAfter}
use Rattle.qtt_machine.specs.Runs.{Answers}
use Rattle.qtt_machine.proofs.Reaching.{ends_done, traps_trapped, ticks_spent}

-- a run goes on by a tick after so many ticks
abbrev GoesOnAfter : Program → ℕ → State → Type 0
GoesOnAfter P n s = (r : State) × (Reaches P n s r × ((t : State) × (instruction P r ≡ Did.ticks t)))

below-or-not : (b n : ℕ) → (b < n) ⊎ (n ≤ b)
below-or-not b zero = inr (omega arith)
below-or-not zero (suc n) = inl (omega arith)
below-or-not (suc b) (suc n) = elim (below-or-not b n) [ inl h ↦ inl (omega arith) | inr h ↦ inr (omega arith) ]

module _ (P : Program) where
  goes-on-before : {n : ℕ} {s r : State} → Reaches P n s r → (b : ℕ) → b < n → GoesOnAfter P b s
  goes-on-before Reaches.here b h = absurd (omega (arith, h))
  goes-on-before (Reaches.goes d w) b h = let x = goes-on-before w b h in (x.0, (Reaches.goes d x.1.0, x.1.1))
  goes-on-before (Reaches.ticks {s = s} {t = t} d w) zero h = (s, (Reaches.here, (t, d)))
  goes-on-before (Reaches.ticks d w) (suc b) h = let x =
      goes-on-before w b (omega (arith, h)) in (x.0, (Reaches.ticks d x.1.0, x.1.1))

  spent-before : (n b : ℕ) (s r : State) → Reaches P n s r → b < n → Advances P b s Halt.spent
  spent-before n b s r w h = let x = goes-on-before w b h in ticks_spent P b s x.0 x.1.1.0 x.1.0 x.1.1.1

  pub ended_answers : (n : ℕ) (s : State) (v : Value) → EndsAfter P n s v → Answers P s
  ended_answers n s v e b =
      elim (below-or-not b n) [
        | inl h ↦ (Halt.spent, spent-before n b s e.0 e.1 h)
        | inr h ↦
            (Halt.done v, ends_done P b n s e.0 v e.1 h e.2)
      ]

  pub trapped_answers : (n : ℕ) (s : State) (k : Cause) → TrapsAfter P n s k → Answers P s
  trapped_answers n s k e b =
      elim (below-or-not b n) [
        | inl h ↦ (Halt.spent, spent-before n b s e.0 e.1 h)
        | inr h ↦
            (Halt.trapped k, traps_trapped P b n s e.0 k e.1 h e.2)
      ]
