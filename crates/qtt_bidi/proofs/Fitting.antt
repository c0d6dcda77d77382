-- What a binder is used for, and its multiplicity.
use Rattle.std.proofs.Common.{◌≡◌, ℕ, true, false, List, ◌∷◌, Option, sym, subst}
use Rattle.qtt_usage.specs.declared.mult.Mult.{Mult}
use Rattle.qtt_term.specs.Signature.{Env}
use Rattle.qtt_term.specs.Judgement.{Part}
use Rattle.qtt_rules.specs.Refusal.{Cause, Place}
use Rattle.qtt_bidi.specs.Answers.{Reaches, Fails}
use Rattle.qtt_bidi.specs.Premises.{fit}
use Rattle.qtt_bidi.specs.Seen.{fitting}
use Rattle.qtt_bidi.proofs.Within.{on_done, holds, unmet}

module _ {E : Env} {n : ℕ} (x : Option (List ℕ)) (q u : Mult) (us ws : List Mult) (w : Place) where
  pub fit-holds : (p : Part) → us ≡ u ∷ ws → fitting p u q ≡ true → Reaches E n (fit p x q us w) tt
  unfolding fit
  fit-holds Part.erased e f = on_done
  fit-holds Part.run e f = subst (λ us. Reaches E n (fit Part.run x q us w) tt) (sym e) (holds _ _ _ f)

  pub fit-fails : (p : Part) → us ≡ u ∷ ws → fitting p u q ≡ false →
      Fails E n (fit p x q us w) (Cause.wrong_usage x q u) w
  unfolding fit
  fit-fails Part.erased e f = absurd (cc f)
  fit-fails Part.run e f =
      subst (λ us. Fails E n (fit Part.run x q us w) (Cause.wrong_usage x q u) w) (sym e) (unmet _ _ _ f)
