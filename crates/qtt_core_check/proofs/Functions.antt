-- The end of the rule of functions, by whether the use of the binder fits; and families that heads are.
use Rattle.std.proofs.Common.{◌≡◌, ℕ, Bool, true, false, ◌||◌, ◌&&◌, cond, eqb, Some, None, List, ◌∷◌, length, refl, ap, sym, ◌∙◌, subst}
use mathlib.Core.Path.{ap₂}
use Rattle.std.proofs.lemmas.Bool.{eq-eqb}
use Rattle.qtt_base.specs.declared.place.GlobalId.{GlobalId}
use Rattle.qtt_usage.specs.declared.mult.Mult.{Mult}
use Rattle.qtt_usage.specs.Mult.{fits}
use Rattle.qtt_term.specs.Term.{Term, Terms, size, Pi, Fam, same_id}
use Rattle.qtt_term.specs.Signature.{Env}
use Rattle.qtt_term.specs.Question as question
use Rattle.qtt_term.specs.Ask.{Question, Ending, within, on_head}
use Rattle.qtt_term.specs.Judgement.{Ctx, Part}
use Rattle.qtt_term.specs.Accepted.{is_dead}
use Rattle.qtt_term.specs.Infer.{Premise, inferred, at, unbound, as_family, family_of}
use Rattle.qtt_term.specs.Premises.{found}
use Rattle.qtt_term.specs.declared.rule.Rule.TheVariants as rule
use Rattle.qtt_core_check.specs.Seen.{Reaches, Fails, fitting, lam_ends}
use Rattle.qtt_core_check.proofs.Within.{on, on_done, fails_here, holds, unmet}

test-is : (d f : Bool) → cond d true (f && true) ≡ (d || f)
test-is true f = refl
test-is false true = refl
test-is false false = refl

pub lam-unfit : {E : Env} {n : ℕ} (p : Part) (q : Mult) (A b B : Term) (u : Mult) (us ws : List Mult) →
    ws ≡ u ∷ us → fitting p b u q ≡ false →
    Fails E n (lam_ends p q A b (inferred B ws)) (at rule.Lam 3)
unfolding unbound
lam-unfit {E} {n} Part.run q A b B u us ws e f =
    subst (λ ws. Fails E n (lam_ends Part.run q A b (inferred B ws)) (at rule.Lam 3)) (sym e)
    (fails_here _ (fails_here _ (unmet _ _ (test-is (is_dead b) (fits u q) ∙ f))))
lam-unfit Part.erased q A b B u us ws e f = absurd (cc f)

pub lam-fit : {E : Env} {n : ℕ} (p : Part) (q : Mult) (A b B : Term) (u : Mult) (us ws : List Mult) →
    ws ≡ u ∷ us → fitting p b u q ≡ true →
    Reaches E n (lam_ends p q A b (inferred B ws)) (inferred (Pi q A B) us)
unfolding unbound
lam-fit {E} {n} Part.run q A b B u us ws e f =
    subst (λ ws. Reaches E n (lam_ends Part.run q A b (inferred B ws)) (inferred (Pi q A B) us)) (sym e)
    (on _ (on _ (holds _ _ (test-is (is_dead b) (fits u q) ∙ f)) on_done) on_done)
lam-fit {E} {n} Part.erased q A b B u us ws e f =
    subst (λ ws. Reaches E n (lam_ends Part.erased q A b (inferred B ws)) (inferred (Pi q A B) us)) (sym e)
    (on _ on_done on_done)

-- ---- families
pub head-family : {E : Env} {n : ℕ} (Γ : Ctx) (f g : GlobalId) (k : ℕ) (A h : Term) (made : ℕ) (ts : Terms)
    (r : Premise) → question.head E n A ≡ question.Head.done h made →
    h ≡ Fam g ts → same_id f g ≡ true → size ts ≡ k → Reaches E n (family_of Γ f k A r) ts
unfolding within on_head family_of
head-family {E} {n} Γ f g k A h made ts r e d s z = record {
  is =
      ap (λ H. on_head H (λ h. within E n (found (as_family f k h) r))
      (Ending.spent tt (Question.head_of (length Γ) A))) e ∙ ap (λ h. within E n (found (as_family f k h) r)) d
      ∙ ap (λ b. within E n (found (cond b (Some ts) None) r)) (ap₂ (λ a b. a && b) s (eq-eqb (size ts) k z));
}

pub other-family : {E : Env} {n : ℕ} (Γ : Ctx) (f g : GlobalId) (k : ℕ) (A h : Term) (made : ℕ) (ts : Terms)
    (r : Premise) → question.head E n A ≡ question.Head.done h made →
    h ≡ Fam g ts → (same_id f g && eqb (size ts) k) ≡ false → Fails E n (family_of Γ f k A r) r
unfolding within on_head family_of
other-family {E} {n} Γ f g k A h made ts r e d s = record {
  is =
      ap (λ H. on_head H (λ h. within E n (found (as_family f k h) r))
      (Ending.spent tt (Question.head_of (length Γ) A))) e ∙ ap (λ h. within E n (found (as_family f k h) r)) d
      ∙ ap (λ b. within E n (found (cond b (Some ts) None) r)) s;
}
