-- Lists of questions that end alike, within a budget and over two environments; and what is there.
use Rattle.std.proofs.Common.{◌≡◌, ℕ, Option, Some, None, Result, Ok, Err, refl, ◌∙◌}
use Rattle.qtt_term.specs.Signature.{Env}
use Rattle.qtt_term.specs.Ask.{within}
use Rattle.qtt_rules.specs.declared.errors.ElabError.{ElabError}
use Rattle.qtt_rules.specs.declared.errors.ElabError.TheVariants as error
use Rattle.qtt_rules.specs.Refusal.{Cause, Place, at}
use Rattle.qtt_rules.specs.Asks.{Asks, refuse, found}
use Rattle.qtt_bidi.specs.Answers.{Kept, kept, Reaches, Fails, Tells, Refuses, Gives}
use Rattle.qtt_bidi.proofs.Within.{on_done}

module _ (E D : Env) (n : ℕ) {A : Type 0} (m w : Asks A) (same : within E n w ≡ within D n m) where
  pub reaches-alike : (a : A) → Reaches D n m a → Reaches E n w a
  reaches-alike a h = record { is = same ∙ h.is }

  tells-alike : (p : Place) (t : Kept) → Tells D n m p t → Tells E n w p t
  tells-alike p (Kept.premise c) h = record { is = same ∙ h.is }
  tells-alike p (Kept.question_of b q) h = record { budget = h.budget; is = same ∙ h.is }
  tells-alike p Kept.nothing h = h

  pub refuses-alike : (e : ElabError) → Refuses D n m e → Refuses E n w e
  refuses-alike (error.Refused d s r k) h = tells-alike (at s r k) (kept d) h
  refuses-alike error.Memory h = tt

  pub gives-alike : {X : Type 0} (view : X → A) (r : Result X ElabError) → Gives D n m view r → Gives E n w view r
  gives-alike view (Ok x) h = reaches-alike (view x) h
  gives-alike view (Err e) h = refuses-alike e h

-- ---- what is refused at once
pub refused-so : {E : Env} {n : ℕ} {A : Type 0} (c : Cause) (p : Place) → Fails E n {A = A} (refuse c p) c p
unfolding within
refused-so c p = record { is = refl }

-- ---- what is there
pub there : {E : Env} {n : ℕ} {A : Type 0} (o : Option A) (c : Cause) (p : Place) (a : A) → o ≡ Some a →
    Reaches E n (found o c p) a
there o c p a e = rw e on_done

pub absent : {E : Env} {n : ℕ} {A : Type 0} (o : Option A) (c : Cause) (p : Place) → o ≡ None →
    Fails E n (found o c p) c p
unfolding within
absent o c p e = rw e record { is = refl }
