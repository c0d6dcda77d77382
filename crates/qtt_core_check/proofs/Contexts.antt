-- Contexts of the code as the judgement goes under them, and what its answers say without a budget.
use Rattle.std.proofs.Common.{◌≡◌, ℕ, List, [], ◌∷◌, ◌++◌, append_assoc, reverse, Result, Ok, Err, refl, sym, ◌∙◌, ap, subst}
use Rattle.std.proofs.lemmas.List.{append-nil, reverse-append}
use Rattle.qtt_term.specs.declared.context.Ctx as code_ctx
use Rattle.qtt_usage.specs.declared.mult.Mult.{Mult}
use Rattle.qtt_term.specs.declared.term.Term as code
use Rattle.qtt_term.specs.Term.{Term}
use Rattle.qtt_term.specs.Contraction.{BodiesClosed}
use Rattle.qtt_term.specs.Signature.{Tele, Env}
use Rattle.qtt_term.specs.Judgement.{Ctx, Part, ext}
use Rattle.qtt_term.specs.Ask.{Ending, within}
use Rattle.qtt_term.specs.Contexts.{variables}
use Rattle.qtt_term.specs.Infer.{at, infer}
use Rattle.qtt_core_check.specs.declared.refusal.CoreRefusal.{CoreRefusal}
use Rattle.qtt_core_check.specs.declared.refusal.CoreRefusal.TheVariants as refusal
use Rattle.qtt_term.specs.Telescopes.{tele}
use Rattle.qtt_term.specs.FirstSpent.{FirstSpent, Says}
use Rattle.qtt_core_check.specs.Meaning.{typed_as, IsSo, IsNotAccepted, WhereFails, WhereSpent, Infers}
use Rattle.qtt_term.specs.Environment.{ResultsCounted}
use Rattle.qtt_core_check.specs.Seen.{Reaches, Refuses, Gives, question}
use Rattle.qtt_confluence.proofs.Endings.{says}
use Rattle.qtt_core_check.proofs.Sound.{sound}
use Rattle.qtt_core_check.proofs.NeverFails.{failures}

ext-reverse : (Γ : Ctx) (Θ : Tele) → ext Γ Θ ≡ reverse Θ ++ Γ
ext-reverse Γ [] = refl
ext-reverse Γ (b ∷ Θ) =
    ext-reverse (b ∷ Γ) Θ ∙ sym (ap (λ bs. bs ++ Γ) (reverse-append (b ∷ []) Θ) ∙ append_assoc (reverse Θ) (b ∷ []) Γ)

pub context-is : (c : code_ctx.Ctx) → ext [] (tele c.vars.items) ≡ variables c
context-is c = ext-reverse [] (tele c.vars.items) ∙ append-nil (reverse (tele c.vars.items))

-- ---- what is answered within a budget is so without one
module _ (E : Env) (n : ℕ) (p : Part) (Γ : Ctx) (t : Term) where
  ends : (e : Ending _ _ _) → within E n (infer E p Γ t) ≡ e → Says E n (infer E p Γ t) e
  ends e h = subst (λ e. Says E n (infer E p Γ t) e) h (says E n (infer E p Γ t))

  answer-is-so : ResultsCounted E → (r : code.Term × List Mult) → Reaches E n (infer E p Γ t) (typed_as r) →
      IsSo E p Γ t (typed_as r)
  answer-is-so w r h =
      let x = ends (Ending.ok (typed_as r)) h.is in
      ((sound E w).accepts_uses p Γ t (typed_as r) x, (sound E w).has_uses p Γ t (typed_as r) x)

  failure-is-so : BodiesClosed E → ResultsCounted E → (e : CoreRefusal) → Refuses E n (infer E p Γ t) e →
      WhereFails e (IsNotAccepted E p Γ t)
  failure-is-so b w (refusal.Fails r k) h = λ A u d.
      (failures E b w).accepted p Γ t A u d (Ending.fails (at r k)) (ends (Ending.fails (at r k)) h.is)
  failure-is-so b w (refusal.Spent q) h = tt
  failure-is-so b w refusal.Memory h = tt

  spent-is-so : (e : CoreRefusal) → Refuses E n (infer E p Γ t) e →
      WhereSpent e (λ q. FirstSpent E n (infer E p Γ t) tt q)
  spent-is-so (refusal.Fails r k) h = tt
  spent-is-so (refusal.Spent q) h = ends (Ending.spent tt (question q)) h.is
  spent-is-so refusal.Memory h = tt

  pub infers : BodiesClosed E → ResultsCounted E → (r : Result (code.Term × List Mult) CoreRefusal) →
      Gives E n (infer E p Γ t) typed_as r → Infers E n p Γ t r
  infers b w (Ok r) h = record { gives = h; sound = answer-is-so w r h; failed = tt; spent = tt }
  infers b w (Err e) h = record { gives = h; sound = tt; failed = failure-is-so b w e h; spent = spent-is-so e h }
