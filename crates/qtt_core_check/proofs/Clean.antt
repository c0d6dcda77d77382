-- The judgement of an accepted term does not fail: components.
use Rattle.std.proofs.Common.{◌≡◌, ℕ, suc, Bool, true, false, cond, List, [], ◌∷◌, length, refl, ◌∙◌, subst}
use Rattle.qtt_usage.specs.declared.mult.Mult.{Mult}
use Rattle.qtt_usage.specs.Mult.{◌≼◌}
use Rattle.qtt_usage.specs.Uses.{Key, Use, outs}
use Rattle.qtt_usage.specs.Usage.{use_of}
use Rattle.qtt_term.specs.Term.{Term, Terms, ε, ◌▸◌, Sort}
use Rattle.qtt_term.specs.Substitution.{sub, cons}
use Rattle.qtt_term.specs.Signature.{Tele, Env}
use Rattle.qtt_term.specs.Contraction.{Conv, BodiesClosed}
use Rattle.qtt_term.specs.Judgement.{Ctx, InScope, ext, Part, under, InRun, Judged, BindersFit, Args}
use Rattle.qtt_term.specs.Ask.{Ending, Ends}
use Rattle.qtt_term.specs.Accepted.{is_dead, Accepts, AcceptsAll}
use Rattle.qtt_term.specs.Infer.{Premise, Inferred, infer, has, type_of, unbound, Wanted, arguments}
use Rattle.qtt_term.specs.Environment.{ResultsCounted}
use Rattle.qtt_core_check.proofs.Lists.{onto-fit}
use Rattle.qtt_core_check.proofs.Derived.{Derived}
use Rattle.qtt_core_check.proofs.Arguments.{tele_of}
use Rattle.qtt_core_check.proofs.Sound.{derived}
use Rattle.qtt_core_check.proofs.OneType.{one-type}
use Rattle.qtt_core_check.proofs.OneUse.{one-accepted}
use Rattle.qtt_core_check.proofs.Acceptance.{typed-of}
use Rattle.qtt_core_check.proofs.Heads.{no-failure, done-holds, need-holds, agree-holds, sort-holds}

abbrev pub Clean : Env → Term → Type 0
Clean E t =
    (p : Part) (Γ : Ctx) (A : Term) (u : Use) (f : Premise) → Accepts E p Γ t A u →
    Ends E (infer E p Γ t) (Ending.fails f) → ⊥

abbrev pub AllClean : Env → Terms → Type 0
AllClean E ε = Unit {0}
AllClean E (t ▸ ts) = Clean E t × AllClean E ts

-- ---- fits look at variables alone
abbrev pub VariablesAgree : Ctx → Use → Use → Type 0
VariablesAgree Γ u w = (i : ℕ) → InScope Γ i → u (Key.v i) ≡ w (Key.v i)

agree-outs : (Γ : Ctx) (Θ : Tele) (u w : Use) → VariablesAgree (ext Γ Θ) u w →
    VariablesAgree Γ (outs (length Θ) u) (outs (length Θ) w)
agree-outs Γ [] u w h i s = h i s
agree-outs Γ (b ∷ Θ) u w h i s = agree-outs (b ∷ Γ) Θ u w h (suc i) s

pub fits-agree : (Γ : Ctx) (Θ : Tele) (u w : Use) → VariablesAgree (ext Γ Θ) u w → BindersFit Θ u → BindersFit Θ w
fits-agree Γ [] u w h f = tt
fits-agree Γ (b ∷ Θ) u w h f =
    (subst (λ m. m ≼ b.0) (agree-outs (b ∷ Γ) Θ u w h 0 tt) f.0, fits-agree (b ∷ Γ) Θ u w h f.1)

pub dead-or : (d b : Bool) → (d ≡ false → b ≡ true) → cond d true b ≡ true
dead-or true b e = refl
dead-or false b e = e refl

module _ (E : Env) (counted : ResultsCounted E) (bodies : BodiesClosed E) where
  pub found-type : (p : Part) (Γ : Ctx) (t A : Term) (u : Use) (j : Inferred) → Accepts E p Γ t A u →
      Ends E (infer E p Γ t) (Ending.ok j) → Conv E j.type A
  found-type p Γ t A u j h x =
      let d = derived E counted p Γ t j x in one-type E bodies t p p Γ j.type A d.use_of_term u (typed-of d.accepted)
      (typed-of h)

  pub has-holds : (t : Term) → Clean E t → (p : Part) (Γ : Ctx) (A B : Term) (u : Use) (r f : Premise) →
      Accepts E p Γ t A u → Conv E A B →
      Ends E (has Γ (infer E p Γ t) B r) (Ending.fails f) → ⊥
  has-holds t c p Γ A B u r f h e x =
      no-failure _ _ x (λ y. c p Γ A u f h y) (λ j y z.
      no-failure _ _ z (λ w. agree-holds bodies Γ j.type B r f (Conv.thence (found-type p Γ t A u j h y) e) w)
      (λ a w v. done-holds v))

  pub type-holds : (t : Term) → Clean E t → (Γ : Ctx) (l : ℕ) (u : Use) (r f : Premise) →
      Accepts E Part.erased Γ t (Sort l) u →
      Ends E (type_of Γ (infer E Part.erased Γ t) r) (Ending.fails f) → ⊥
  type-holds t c Γ l u r f h x =
      no-failure _ _ x (λ y. c Part.erased Γ (Sort l) u f h y)
      (λ j y z. sort-holds E bodies Γ j.type l r f (found-type Part.erased Γ t (Sort l) u j h y) z)

  pub open-holds : (p : Part) (Γ : Ctx) (Θ : Tele) (t A B : Term) (u : Use) (us : List Mult) (r f : Premise) →
      Accepts E p (ext Γ Θ) t A u →
      InRun p (is_dead t ≡ false → BindersFit Θ u) → Derived E p (ext Γ Θ) t B us →
      Ends E (unbound p Θ t us r) (Ending.fails f) → ⊥
  unfolding unbound
  open-holds Part.run Γ Θ t A B u us r f h k d x =
      no-failure _ _ x
      (λ y. need-holds _ r f
      (dead-or (is_dead t) _ (λ e. onto-fit [] Θ us (fits-agree Γ Θ u (use_of us) agree (k e)) refl)) y)
      (λ a y z. done-holds z)
    where
      agree : VariablesAgree (ext Γ Θ) u (use_of us)
      agree i s = one-accepted E t (ext Γ Θ) A B u d.use_of_term h d.accepted (Key.v i) s ∙ d.counts (Key.v i) tt
  open-holds Part.erased Γ Θ t A B u us r f h k d x = done-holds x

  pub arguments-hold : (ts : Terms) → AllClean E ts →
      (p : Part) (Γ : Ctx) (ws : List Wanted) (σ : ℕ → Term) (js : List Judged) (f : Premise) →
      Args (tele_of ws) σ ts js → AcceptsAll E p Γ [] ts js → Ends E (arguments E p Γ ws σ ts) (Ending.fails f) → ⊥
  arguments-hold ε c p Γ [] σ js f a hs x = done-holds x
  arguments-hold ε c p Γ (w ∷ ws) σ js f a hs x = elim a [ ]
  arguments-hold (t ▸ ts) c p Γ [] σ js f a hs x = elim a [ ]
  arguments-hold (t ▸ ts) c p Γ (w ∷ ws) σ _ f (Args.more {u = u} a) (AcceptsAll.more i h k hs) x =
      no-failure _ _ x (λ y. has-holds t c.0 (under p w.mult) Γ (sub σ w.type) (sub σ w.type) u _ f h Conv.same y)
      (λ us y z. no-failure _ _ z (λ v. arguments-hold ts c.1 p Γ ws (cons t σ) _ f a hs v) (λ vs v q. done-holds q))
