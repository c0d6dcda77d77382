-- Heads that are looked for, within a budget.
use Rattle.std.proofs.Common.{◌≡◌, ℕ, Option, Some, None, refl, sym, ap, subst, ◌∙◌}
use Rattle.qtt_base.specs.declared.place.Span.{Span}
use Rattle.qtt_term.specs.declared.convert.Question.TheVariants as asked
use Rattle.qtt_term.specs.declared.rule.Rule.{Rule}
use Rattle.qtt_term.specs.declared.term.Term as code
use Rattle.qtt_term.specs.Term.{Term}
use Rattle.qtt_term.specs.View.{term}
use Rattle.qtt_term.specs.Signature.{Env}
use Rattle.qtt_term.specs.Question as question
use Rattle.qtt_term.specs.Ask.{Question, Ending, within, on_head}
use Rattle.qtt_term.specs.Premises as premises
use Rattle.qtt_rules.specs.declared.detail.Detail.TheVariants as detail
use Rattle.qtt_rules.specs.declared.errors.ElabError.{ElabError}
use Rattle.qtt_rules.specs.declared.errors.ElabError.TheVariants as error
use Rattle.qtt_rules.specs.Refusal.{Cause, Place, at, refused}
use Rattle.qtt_rules.specs.Asks.{Asks, head_as}
use Rattle.qtt_bidi.specs.Answers.{Reaches, Fails, Spends, Tells, Refuses, Told}

-- a refusal that tells the premise with which a list ends
pub told : (E : Env) (n : ℕ) {A : Type 0} (m : Asks A) (c : Cause) (p : Place) (e : ElabError) →
    Fails E n m c p → Told c p e → Refuses E n m e
told E n m c p (error.Refused d s r k) h t =
    subst (λ x. Tells E n m (at s r k) x) (sym t.0) (subst (λ w. Fails E n m c w) (sym t.1) h)
told E n m c p error.Memory h t = tt

module _ (E : Env) (n : ℕ) {A : Type 0} (view : Term → Option A) (other : ℕ → Term → Cause) (d : ℕ) (T : Term)
    (p : Place) where
  -- how it ends with the head that is answered
  headed : (H : question.Head) → question.head E n T ≡ H →
      within E n (head_as view other d T p) ≡
      on_head H (λ h. within E n (premises.found (view h) (refused (other d T) p)))
      (Ending.spent p (Question.head_of d T))
  unfolding within
  headed H e =
      ap (λ H. on_head H (λ h. within E n (premises.found (view h) (refused (other d T) p)))
      (Ending.spent p (Question.head_of d T))) e

  pub head-is : (h : Term) (made : ℕ) (x : A) → question.head E n T ≡ question.Head.done h made → view h ≡ Some x →
      Reaches E n (head_as view other d T p) x
  unfolding within on_head
  head-is h made x e v = record {
    is = headed (question.Head.done h made) e
        ∙ ap (λ o. within E n (premises.found o (refused (other d T) p))) v;
  }

  pub head-other : (h : Term) (made : ℕ) → question.head E n T ≡ question.Head.done h made → view h ≡ None →
      Fails E n (head_as view other d T p) (other d T) p
  unfolding within on_head
  head-other h made e v = record {
    is = headed (question.Head.done h made) e
        ∙ ap (λ o. within E n (premises.found o (refused (other d T) p))) v;
  }

  pub head-spent : question.head E n T ≡ question.Head.spent →
      Spends E n (head_as view other d T p) n p (Question.head_of d T)
  unfolding within on_head
  head-spent e = record { budget = refl; is = headed question.Head.spent e }

  -- and the refusals that tell these
  pub other-told : (h : Term) (made : ℕ) (e : ElabError) (k : ℕ) →
      question.head E n T ≡ question.Head.done h made → view h ≡ None → k ≡ d → Told (other k T) p e →
      Refuses E n (head_as view other d T p) e
  other-told h made e k is v same t =
      told E n (head_as view other d T p) (other d T) p e (head-other h made is v)
      (subst (λ k. Told (other k T) p e) same t)

  pub spent-told : (r : ElabError) (k : ℕ) (t : code.Term) (s : Span) (w : Rule) (i : ℕ) →
      question.head E n T ≡ question.Head.spent → k ≡ d → term t ≡ T → at s w i ≡ p →
      r ≡ error.Refused (detail.BudgetSpent n (asked.Head k t)) s w i →
      Refuses E n (head_as view other d T p) r
  spent-told r k t s w i is depth same place e =
      let M = head_as view other d T p in
      let here : Spends E n M n (at s w i) (Question.head_of k (term t)) =
      subst (λ x. Spends E n M n x (Question.head_of k (term t))) (sym place)
      (subst (λ x. Spends E n M n p (Question.head_of x (term t))) (sym depth)
      (subst (λ x. Spends E n M n p (Question.head_of d x)) (sym same) (head-spent is))) in
      subst (λ r. Refuses E n M r) (sym e) here
