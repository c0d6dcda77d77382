-- The judgement of an accepted term ends with an answer: components.
use Rattle.std.proofs.Common.{◌≡◌, ℕ, false, List, [], ◌∷◌, refl, ◌∙◌}
use Rattle.qtt_usage.specs.declared.mult.Mult.{Mult}
use Rattle.qtt_usage.specs.Uses.{Key, Use}
use Rattle.qtt_usage.specs.Usage.{use_of}
use Rattle.qtt_term.specs.Term.{Term, Terms, ε, ◌▸◌, Sort}
use Rattle.qtt_term.specs.Substitution.{sub, cons}
use Rattle.qtt_term.specs.Signature.{Tele, Env}
use Rattle.qtt_term.specs.Contraction.{Conv, BodiesClosed}
use Rattle.qtt_term.specs.Judgement.{Ctx, ext, Part, under, InRun, Judged, BindersFit, Args}
use Rattle.qtt_term.specs.Accepted.{is_dead, Accepts, AcceptsAll}
use Rattle.qtt_term.specs.Infer.{Premise, infer, has, type_of, unbound, Wanted, arguments}
use Rattle.qtt_term.specs.Environment.{ResultsCounted}
use Rattle.qtt_core_check.proofs.Lists.{onto-fit}
use Rattle.qtt_core_check.proofs.Derived.{Derived}
use Rattle.qtt_core_check.proofs.Arguments.{tele_of}
use Rattle.qtt_core_check.proofs.OneUse.{one-accepted}
use Rattle.qtt_core_check.proofs.Clean.{VariablesAgree, fits-agree, dead-or, found-type}
use Rattle.qtt_core_check.proofs.Answered.{Answered, and-then, answered-now, need-answered, agree-answered, sort-answered}

abbrev pub Inferable : Env → Term → Type 0
Inferable E t = (p : Part) (Γ : Ctx) (A : Term) (u : Use) → Accepts E p Γ t A u → Answered E (infer E p Γ t)

abbrev pub AllInferable : Env → Terms → Type 0
AllInferable E ε = Unit {0}
AllInferable E (t ▸ ts) = Inferable E t × AllInferable E ts

module _ (E : Env) (counted : ResultsCounted E) (bodies : BodiesClosed E) where
  pub has-answered : (t : Term) → Inferable E t → (p : Part) (Γ : Ctx) (A B : Term) (u : Use) (r : Premise) →
      Accepts E p Γ t A u → Conv E A B → Answered E (has Γ (infer E p Γ t) B r)
  has-answered t c p Γ A B u r h e =
      and-then _ _ (c p Γ A u h) (λ j y.
      and-then _ _ (agree-answered Γ j.type B r (Conv.thence (found-type E counted bodies p Γ t A u j h y) e))
      (λ a w. answered-now j.uses))

  pub type-answered : (t : Term) → Inferable E t → (Γ : Ctx) (l : ℕ) (u : Use) (r : Premise) →
      Accepts E Part.erased Γ t (Sort l) u → Answered E (type_of Γ (infer E Part.erased Γ t) r)
  type-answered t c Γ l u r h =
      and-then _ _ (c Part.erased Γ (Sort l) u h)
      (λ j y. sort-answered E bodies Γ j.type l r (found-type E counted bodies Part.erased Γ t (Sort l) u j h y))

  pub open-answered : (p : Part) (Γ : Ctx) (Θ : Tele) (t A B : Term) (u : Use) (us : List Mult) (r : Premise) →
      Accepts E p (ext Γ Θ) t A u →
      InRun p (is_dead t ≡ false → BindersFit Θ u) → Derived E p (ext Γ Θ) t B us → Answered E (unbound p Θ t us r)
  unfolding unbound
  open-answered Part.run Γ Θ t A B u us r h k d =
      and-then _ _
      (need-answered _ r
      (dead-or (is_dead t) _ (λ e. onto-fit [] Θ us (fits-agree Γ Θ u (use_of us) agree (k e)) refl)))
      (λ a y. answered-now _)
    where
      agree : VariablesAgree (ext Γ Θ) u (use_of us)
      agree i s = one-accepted E t (ext Γ Θ) A B u d.use_of_term h d.accepted (Key.v i) s ∙ d.counts (Key.v i) tt
  open-answered Part.erased Γ Θ t A B u us r h k d = answered-now _

  pub arguments-answered : (ts : Terms) → AllInferable E ts →
      (p : Part) (Γ : Ctx) (ws : List Wanted) (σ : ℕ → Term) (js : List Judged) →
      Args (tele_of ws) σ ts js → AcceptsAll E p Γ [] ts js → Answered E (arguments E p Γ ws σ ts)
  arguments-answered ε c p Γ [] σ js a hs = answered-now _
  arguments-answered ε c p Γ (w ∷ ws) σ js a hs = elim a [ ]
  arguments-answered (t ▸ ts) c p Γ [] σ js a hs = elim a [ ]
  arguments-answered (t ▸ ts) c p Γ (w ∷ ws) σ _ (Args.more {u = u} a) (AcceptsAll.more i h k hs) =
      and-then _ _ (has-answered t c.0 (under p w.mult) Γ (sub σ w.type) (sub σ w.type) u _ h Conv.same)
      (λ us y. and-then _ _ (arguments-answered ts c.1 p Γ ws (cons t σ) _ a hs) (λ vs v. answered-now _))
