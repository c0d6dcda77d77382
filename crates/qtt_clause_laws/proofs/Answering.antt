-- What it is for lists of questions to end well, within a budget or without one.
use Rattle.std.proofs.Common.{◌≡◌, ℕ, refl, sym, ◌∙◌, subst}
use Rattle.qtt_term.specs.Signature.{Env}
use Rattle.qtt_term.specs.Ask.{Ask, ◌>>=◌, Ending, Ends, within}
use Rattle.qtt_term.specs.FirstSpent.{Says}
use Rattle.qtt_confluence.proofs.Endings.{says}
use Rattle.qtt_core_check.proofs.Within.{onward, within-then}
use Rattle.qtt_rules.specs.Asks.{Asks}
use Rattle.qtt_rules.specs.Refusal.{Place, Refusal}
use Rattle.qtt_split.specs.Laws.{answers_within, answers}
use Rattle.qtt_unify.proofs.Endings.{parts, ended}

-- the answer of the first list, and what is so of it and of what follows it
pub record Bound {A : Type 0} (First After : A → Type 0) : Type 0 where
  pub mid : A
  pub first : First mid
  pub after : After mid

pub record Answering (E : Env) : Type 1 where
  pub says : {A : Type 0} → Asks A → A → Type 0
  pub bound : {A B : Type 0} (m : Asks A) (k : A → Asks B) (b : B) → says (m >>= k) b →
      Bound (λ a. says m a) (λ a. says (k a) b)
  pub only : {A : Type 0} (a b : A) → says (Ask.done a) b → a ≡ b
  pub ends : {A : Type 0} (m : Asks A) (a : A) → says m a → Ends E m (Ending.ok a)

-- ---- without a bound
abbrev pub unbounded : (E : Env) → Answering E
unbounded E = record {
  says = answers E;
  bound = λ m k b x. (let r = parts m k b x in record { mid = r.mid; first = r.first; after = r.after });
  only = λ a b x. ended a b x;
  ends = λ m a x. x;
}

-- ---- within a budget
pub within-ends : {A : Type 0} (E : Env) (n : ℕ) (m : Asks A) (a : A) → answers_within E n m a → Ends E m (Ending.ok a)
within-ends E n m a e = subst (Says E n m) e (says E n m)

onward-bound : {A B : Type 0} (E : Env) (n : ℕ) (m : Asks A) (k : A → Asks B) (b : B) (o : Ending Refusal Place A) →
    within E n m ≡ o → onward o (λ a. within E n (k a)) ≡ Ending.ok b →
    Bound (λ a. answers_within E n m a) (λ a. answers_within E n (k a) b)
onward-bound E n m k b (Ending.ok a) d e = record { mid = a; first = d; after = e }
onward-bound E n m k b (Ending.fails f) d e = absurd (cc e)
onward-bound E n m k b (Ending.spent p q) d e = absurd (cc e)

pub within-bound : {A B : Type 0} (E : Env) (n : ℕ) (m : Asks A) (k : A → Asks B) (b : B) →
    answers_within E n (m >>= k) b → Bound (λ a. answers_within E n m a) (λ a. answers_within E n (k a) b)
within-bound E n m k b e = onward-bound E n m k b (within E n m) refl (sym (within-then E n m k) ∙ e)

pub within-only : {A : Type 0} (E : Env) (n : ℕ) (a b : A) → answers_within E n (Ask.done a) b → a ≡ b
unfolding within
within-only E n a b e = cc e

abbrev pub budgeted : (E : Env) → ℕ → Answering E
budgeted E n = record {
  says = answers_within E n;
  bound = λ m k b e. within-bound E n m k b e;
  only = λ a b e. within-only E n a b e;
  ends = λ m a e. within-ends E n m a e;
}
