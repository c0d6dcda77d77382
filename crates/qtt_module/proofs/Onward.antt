-- Lists of questions that end alike, and what follows an answer.
use Rattle.std.proofs.Common.{◌≡◌, ◌∙◌, ℕ, Result, Ok, Err, sym, ap}
use Rattle.qtt_term.specs.Signature.{Env}
use Rattle.qtt_term.specs.Ask.{◌>>=◌, within}
use Rattle.qtt_core_check.proofs.Within.{onward, within-then}
use Rattle.qtt_rules.specs.declared.errors.ElabError.{ElabError}
use Rattle.qtt_rules.specs.declared.errors.ElabError.TheVariants as error
use Rattle.qtt_rules.specs.Refusal.{Place, at}
use Rattle.qtt_rules.specs.Asks.{Asks}
use Rattle.qtt_bidi.specs.Answers.{Kept, kept, Reaches, Tells, Refuses, Gives}

module _ (E : Env) (n : ℕ) where
  pub past : {A B : Type 0} (m : Asks A) (k : A → Asks B) (a : A) → Reaches E n m a →
      within E n (m >>= k) ≡ within E n (k a)
  past m k a h = within-then E n m k ∙ ap (λ e. onward e (λ x. within E n (k x))) h.is

  pub then-same : {A B : Type 0} (m w : Asks A) (k : A → Asks B) → within E n m ≡ within E n w →
      within E n (m >>= k) ≡ within E n (w >>= k)
  then-same m w k e =
      within-then E n m k ∙ ap (λ x. onward x (λ a. within E n (k a))) e ∙ sym (within-then E n w k)

  told-so : {A : Type 0} (m w : Asks A) (p : Place) (t : Kept) → within E n w ≡ within E n m → Tells E n m p t →
      Tells E n w p t
  told-so m w p (Kept.premise c) e h = record { is = e ∙ h.is }
  told-so m w p (Kept.question_of b q) e h = record { budget = h.budget; is = e ∙ h.is }
  told-so m w p Kept.nothing e h = h

  pub refused-so : {A : Type 0} (m w : Asks A) (r : ElabError) → within E n w ≡ within E n m → Refuses E n m r →
      Refuses E n w r
  refused-so m w (error.Refused d s r i) e h = told-so m w (at s r i) (kept d) e h
  refused-so m w error.Memory e h = tt

  pub reached-so : {A : Type 0} (m w : Asks A) (a : A) → within E n w ≡ within E n m → Reaches E n m a →
      Reaches E n w a
  reached-so m w a e h = record { is = e ∙ h.is }

  pub gives-so : {A X : Type 0} (m w : Asks A) (view : X → A) (r : Result X ElabError) →
      within E n w ≡ within E n m → Gives E n m view r → Gives E n w view r
  gives-so m w view (Ok x) e h = reached-so m w (view x) e h
  gives-so m w view (Err r) e h = refused-so m w r e h
