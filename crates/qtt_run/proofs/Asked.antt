-- Effects that are not done, since the bound is reached.
use Rattle.std.proofs.Common.{◌≡◌, ℕ, ◌<◌, List, ◌∷◌, [], ◌++◌, length, Option, Ok, refl, subst, arith}
use Rattle.qtt_prims.specs.Tapes.{Taped, new_tape}
use Rattle.qtt_term.specs.FullRun.{Event}
use Rattle.qtt_code.specs.Value.{Value}
use Rattle.qtt_value.specs.declared.val.Val.{Val}
use Rattle.qtt_value.specs.View.{value}
use Rattle.qtt_machine.specs.declared.event.Halt.{Halt}
use Rattle.qtt_machine.specs.declared.event.Halt.TheVariants as halted
use Rattle.qtt_machine.specs.declared.event.TrapKind.{TrapKind}
use Rattle.qtt_machine.specs.Events.{cause}
use Rattle.qtt_run.specs.declared.deed.Effect.{Effect}
use Rattle.qtt_run.specs.declared.deed.Effect.TheVariants.{Bind, PutLine, Open, Write, Close}
use Rattle.qtt_run.specs.declared.program.RunHow.{RunHow}
use Rattle.qtt_run.specs.declared.program.RunHow.TheVariants as how
use Rattle.qtt_run.specs.declared.running.Running.{Running}
use Rattle.qtt_run.specs.declared.running.Turn as code_turn
use Rattle.qtt_run.specs.declared.running.Turn.TheVariants as turn
use Rattle.qtt_run.specs.CodeRun.{Now, pure_unit, pure_handle}
use Rattle.qtt_run.specs.Deed.{AsksEffect, IsPerformed}
use Rattle.qtt_run.specs.Underway.{Origin, IsUnderway, Computes, Trapping, Finished, AfterHalt, AfterTurn, waiting_of, fuel}
use Rattle.qtt_run.proofs.Waiting.{At, bound-reached, gave-unstuck}
use Rattle.qtt_run.proofs.Effects.{write-bound, close-bound}

module _ {o : Origin} {i u : Option (List ℕ)} {t : Option (List Taped)} (m : Running) where
  pub at-value : {v w : Value} → v ≡ w → IsUnderway o (Now.gave v) m i u t → IsUnderway o (Now.gave w) m i u t
  at-value e a = subst (λ v. IsUnderway o (Now.gave v) m i u t) e a

  pub is-performed : {v : Value} → IsUnderway o (Now.gave v) m i u t → IsPerformed v
  is-performed {v} a =
      let r = a.run in (At (Now.gave v) (waiting_of m) r.some.0 r.events r.opened, gave-unstuck r r.some.0)

  pub effect-bound : (v : Value) (e : Effect) → AsksEffect v e → IsUnderway o (Now.gave v) m i u t → m.left ≡ 0 →
      Finished o how.Bound m.left u t
  effect-bound v (Bind f k) (p, q, e) a z =
      let r = (at-value e a).run in
      bound-reached r (At (Now.gave (value f)) (value k ∷ waiting_of m) r.some.0 r.events r.opened) refl z
  effect-bound v (PutLine s) e a z =
      let r = (at-value e a).run in
      bound-reached r (At (Now.gave pure_unit) (waiting_of m) r.some.0
      (r.events ++ Event.line s.now ∷ []) r.opened) refl z
  effect-bound v (Open s) e a z =
      let r = (at-value e a).run in
      bound-reached r
      (At (Now.gave (pure_handle (length r.opened))) (waiting_of m) r.some.0 (r.events ++ Event.opened s.now ∷ [])
      (r.opened ++ new_tape s.now ∷ [])) refl z
  effect-bound v (Write n s) e a z = let r = (at-value e a).run in write-bound r z
  effect-bound v (Close n) e a z = let r = (at-value e a).run in close-bound r z

-- a turn that does not halt has fuel
pub has-fuel : (x : code_turn.Turn) (left : ℕ) → ((h : RunHow) → x ≡ turn.Halts h → ⊥) → 0 < fuel x left
has-fuel (turn.Gives v) left n = omega arith
has-fuel turn.Computes left n = omega arith
has-fuel (turn.Halts h) left n = absurd (n h refl)

-- ---- by the form of a turn and of a halt
module _ {o : Origin} {i u : Option (List ℕ)} {t : Option (List Taped)} (m : Running) where
  pub at-gives : {x : code_turn.Turn} {v : Val} → x ≡ turn.Gives v → AfterTurn o m i u t x →
      IsUnderway o (Now.gave (value v)) m i u t
  at-gives e a = subst (AfterTurn o m i u t) e a

  pub at-computes : {x : code_turn.Turn} → x ≡ turn.Computes → AfterTurn o m i u t x → Computes o m i u t
  at-computes e a = subst (AfterTurn o m i u t) e a

  pub at-done : {x : Halt} {v : Val} → x ≡ halted.Done v → AfterHalt o m i u t (Ok x) →
      IsUnderway o (Now.gave (value v)) m i u t
  at-done e a = subst (λ h. AfterHalt o m i u t (Ok h)) e a

module _ (o : Origin) (i u : Option (List ℕ)) (t : Option (List Taped)) (m : Running) where
  pub at-halts : {x : code_turn.Turn} {h : RunHow} → x ≡ turn.Halts h → AfterTurn o m i u t x → Finished o h m.left u t
  at-halts e a = subst (AfterTurn o m i u t) e a

  pub at-trap : {x : Halt} {k : TrapKind} → x ≡ halted.Trap k → AfterHalt o m i u t (Ok x) →
      Trapping o (cause k) m.left m.handles u t
  at-trap e a = subst (λ h. AfterHalt o m i u t (Ok h)) e a

  pub at-spent : {x : Halt} → x ≡ halted.Spent → AfterHalt o m i u t (Ok x) → Finished o how.Bound m.left u t
  at-spent e a = subst (λ h. AfterHalt o m i u t (Ok h)) e a
