-- The judgement of an accepted term does not fail.
use Rattle.std.proofs.Common.{◌≡◌, ℕ, zero, suc, ◌<◌, ◌^◌, ◌-◌, Bool, true, ◌&&◌, eqb, List, [], ◌∷◌, ◌++◌, length, Option, Some, None, slice_get, refl, sym, ◌∙◌, ap, subst, arith}
use mathlib.Core.Path.{ap₂}
use Rattle.std.specs.Prelude.{nat_lt}
use Rattle.std.proofs.lemmas.Bool.{eq-eqb, lt-ltb}
use Rattle.qtt_base.specs.declared.place.GlobalId.{GlobalId}
use Rattle.qtt_usage.specs.declared.mult.Mult.{Mult}
use Rattle.qtt_usage.specs.Mult.{𝟘, 𝟙, ω, same_mult}
use Rattle.qtt_usage.specs.Uses.{Key, Use}
use Rattle.qtt_usage.specs.Usage.{usage_at}
use Rattle.qtt_term.specs.Term.{Named, Form, binders, Term, Terms, var, node, ε, ◌▸◌, size, Sort, Pi}
use Rattle.qtt_term.specs.Substitution.{sub, push, inst, closed}
use Rattle.qtt_term.specs.Signature.{Tele, ConSig, Env, There, NamedThere, type_arguments, signature, fam_at, EqTy, Refl}
use Rattle.qtt_term.specs.Contraction.{Conv, BodiesClosed}
use Rattle.qtt_term.specs.Judgement.{Ctx, InScope, mult_at, IsCon, Part, under, Usable, Judged, scale, erase_binds, Args, ParamsThenArgs, Rule}
use Rattle.qtt_term.specs.Accepted.{IsSmall, Accepts, AcceptsAll}
use Rattle.qtt_term.specs.Ask.{Ask, ◌>>=◌, Question, Ending, Ends}
use Rattle.qtt_term.specs.Infer.{Premise, at, Inferred, inferred, infer, is_there, usable, named_there, Wanted, wanted, family_wants, constructor_wants, arguments, constructor_at, rule_of}
use Rattle.qtt_term.specs.Premises.{need}
use Rattle.qtt_term.specs.declared.rule.Rule.TheVariants as rule
use Rattle.qtt_confluence.proofs.Facts.{types_are_injective}
use Rattle.qtt_preserve.proofs.Inverted.{inverted}
use Rattle.qtt_preserve.proofs.Iota.{args-size}
use Rattle.qtt_core_check.specs.Laws.{Inference, Reports, FailuresAreSo}
use Rattle.qtt_term.specs.Environment.{ResultsCounted}
use Rattle.qtt_term.proofs.Options.{some-injective}
use Rattle.qtt_core_check.proofs.Parts.{head-conv, function-found}
use Rattle.qtt_term.proofs.Binders.{scale-append}
use Rattle.qtt_core_check.proofs.Arguments.{tele_of, tele_of-wanted, tele_of-append}
use Rattle.qtt_confluence.proofs.Endings.{one-ending}
use Rattle.qtt_core_check.proofs.OneUse.{of-form, one-accepted}
use Rattle.qtt_core_check.proofs.Acceptance.{typed-of, accepted-of, zero-when-erased}
use Rattle.qtt_core_check.proofs.Sound.{derived}
use Rattle.qtt_core_check.proofs.Heads.{no-failure, done-holds, need-holds, function-holds}
use Rattle.qtt_core_check.proofs.Clean.{Clean, AllClean, found-type, has-holds, type-holds, open-holds, arguments-hold}
use Rattle.qtt_core_check.proofs.CleanCase.{cases-shaped, cases-hold}

never-spent : {E : Env} {F P A : Type 0} {m : Ask F P A} {p : P} {q : Question} → Ends E m (Ending.spent p q) → ⊥
never-spent (Ends.has_head e x) = never-spent x
never-spent (Ends.has_reading e x) = never-spent x
never-spent (Ends.are_equal e x) = never-spent x
never-spent (Ends.are_different e x) = never-spent x

-- ---- tests that hold
pub test-usable : (p : Part) (q : Mult) → Usable p q → usable p q ≡ true
test-usable Part.run 𝟘 h = absurd h
test-usable Part.run 𝟙 h = refl
test-usable Part.run ω h = refl
test-usable Part.erased q h = refl

pub test-same : (q r : Mult) → r ≡ q → same_mult q r ≡ true
test-same q r e = grind arith

pub test-scope : (Γ : Ctx) (i : ℕ) → InScope Γ i → nat_lt i (length Γ) ≡ true
test-scope Γ i h = lt-ltb i (length Γ) (below Γ i h)
  where
    below : (Γ : Ctx) (i : ℕ) → InScope Γ i → i < length Γ
    below [] i h = absurd h
    below (b ∷ Γ) zero h = omega arith
    below (b ∷ Γ) (suc i) h = let k : i < length Γ = below Γ i h in omega arith

pub test-there : {A : Type 0} (o : Option A) → There o → is_there o ≡ true
test-there None h = absurd h
test-there (Some a) h = refl

pub test-named : (E : Env) (n : Named) → NamedThere E n → named_there E n ≡ true
test-named E (Named.def d) h = test-there (E.definition d) h
test-named E (Named.lit l) h = refl
test-named E (Named.prim_ty r) h = refl
test-named E (Named.prim r) h = refl
test-named E (Named.act a k) h = eq-eqb k (type_arguments a) h

pub test-con : {cs : List ConSig} {n : ℕ} {c : ConSig} → IsCon cs n c → slice_get cs n ≡ Some c
test-con IsCon.here = refl
test-con (IsCon.there h) = test-con h

pub test-both : {a b : Bool} → a ≡ true → b ≡ true → (a && b) ≡ true
test-both {a} {b} d e = rw (d, e) refl

-- erased parameters and arguments are one list
pub all-args : {Ξ Θ : Tele} {σ : ℕ → Term} {ts : Terms} {js : List Judged} {S R : Term} →
    ParamsThenArgs Ξ Θ σ ts js S R → Args (scale 𝟘 Θ ++ Ξ) σ ts js
all-args (ParamsThenArgs.param a) = Args.more (all-args a)
all-args (ParamsThenArgs.done a) = a

module _ (E : Env) (counted : ResultsCounted E) (bodies : BodiesClosed E) where
  pub family-args : (f : GlobalId) → scale 𝟘 (fam_at E f).params ++ scale 𝟘 (fam_at E f).indices ≡ tele_of
      (family_wants (fam_at E f))
  family-args f = sym (tele_of-wanted _ (erase_binds ((fam_at E f).params ++ (fam_at E f).indices))
      ∙ scale-append 𝟘 (fam_at E f).params (fam_at E f).indices)

  pub con-args : (f : GlobalId) (c : ConSig) →
      scale 𝟘 (fam_at E f).params ++ c.fields ≡ tele_of (constructor_wants (fam_at E f) c)
  con-args f c =
      sym (tele_of-append (wanted (at rule.Con 1) (erase_binds (fam_at E f).params)) (wanted (at rule.Con 2) c.fields)
      ∙ ap₂ (λ a b. a ++ b) (tele_of-wanted _ (erase_binds (fam_at E f).params)) (tele_of-wanted _ c.fields))

  length-tele : (ws : List Wanted) → length (tele_of ws) ≡ length ws
  length-tele [] = refl
  length-tele (w ∷ ws) = ap suc (length-tele ws)

  pub test-size : (ws : List Wanted) {σ : ℕ → Term} {ts : Terms} {js : List Judged} → Args (tele_of ws) σ ts js →
      eqb (size ts) (length ws) ≡ true
  test-size ws {ts = ts} a = eq-eqb (size ts) (length ws) (args-size a ∙ length-tele ws)

  con-holds : (p : Part) (Γ : Ctx) (f : GlobalId) (n : ℕ) (c : ConSig) (ts : Terms) (js : List Judged) (g : Premise)
      (o : Option ConSig) → o ≡ Some c →
      AllClean E ts → Args (tele_of (constructor_wants (fam_at E f) c)) closed ts js → AcceptsAll E p Γ [] ts js →
      Ends E (constructor_at o
      (λ c. need (eqb (length (fam_at E f).params) (length (fam_at E f).params) && eqb (size ts)
      (length (constructor_wants (fam_at E f) c))) (at rule.Con 1)
      >>= (λ s. arguments E p Γ (constructor_wants (fam_at E f) c) closed ts >>=
      (λ u. Ask.done (inferred (sub (push ts closed) c.result) u))))) (Ending.fails g) → ⊥
  con-holds p Γ f n c ts js g None e cs a hs x = absurd (cc e)
  con-holds p Γ f n c ts js g (Some d) e cs a hs x =
      let b = subst (λ c. Args (tele_of (constructor_wants (fam_at E f) c)) closed ts js) (sym (some-injective e)) a in
      no-failure _ _ x (λ y. need-holds _ _ g
      (test-both (eq-eqb (length (fam_at E f).params) _ refl) (test-size (constructor_wants (fam_at E f) d) b)) y)
      (λ r y z. no-failure _ _ z
      (λ v. arguments-hold E counted bodies ts cs p Γ (constructor_wants (fam_at E f) d) closed js g b hs v)
      (λ us v o. done-holds o))

  app-holds : (p : Part) (Γ : Ctx) (q : Mult) (h a A B : Term) (w z : Use) (g : Premise) → Clean E h → Clean E a →
      Accepts E p Γ h (Pi q A B) w →
      Accepts E (under p q) Γ a A z → Ends E (infer E p Γ (node (Form.app q) (h ▸ a ▸ ε))) (Ending.fails g) → ⊥
  app-holds p Γ q h a A B w z g ch ca th ta x =
      no-failure _ _ x (λ y. ch p Γ (Pi q A B) w g th y) (λ j y x₂.
      let found = found-type E counted bodies p Γ h (Pi q A B) w j th y in
      no-failure _ _ x₂ (λ v. function-holds E bodies Γ j.type q A B _ g found v) (λ F v x₃.
      let same = (types_are_injective E bodies).functions F.mult q F.domain F.codomain A B
      (Conv.thence (Conv.back (head-conv (function-found Γ j.type _ F v))) found) in
      no-failure _ _ x₃ (λ v. need-holds _ _ g (test-same q F.mult same.0) v) (λ r v x₄.
      no-failure _ _ x₄
      (λ v. has-holds E counted bodies a ca (under p q) Γ A F.domain z _ g ta (Conv.back same.1) v)
      (λ us v x₅. done-holds x₅))))

  rule-holds : {p : Part} {Γ : Ctx} {F : Form} {ts : Terms} {js : List Judged} {R : Term} {own : Use} →
      Rule E p F ts js R own → IsSmall F → AcceptsAll E p Γ (binders F) ts js →
      AllClean E ts → (g : Premise) → Ends E (infer E p Γ (node F ts)) (Ending.fails g) → ⊥
  rule-holds (Rule.sort {l = l}) small hs c g x =
      no-failure _ _ x (λ y. need-holds _ _ g (lt-ltb l (2 ^ 32 - 1) small) y) (λ r y z. done-holds z)
  rule-holds {p} {Γ} (Rule.pi {q = q} {A = A} {B = B} {i = i} {j = j} {u = u} {w = w}) small
      (AcceptsAll.more d hA f (AcceptsAll.more e hB k AcceptsAll.none)) c g x =
      no-failure _ _ x (λ y. type-holds E counted bodies A c.0 Γ i u _ g hA y)
      (λ r y z. no-failure _ _ z (λ v. type-holds E counted bodies B c.1.0 ((q, A) ∷ Γ) j w _ g hB v)
      (λ r v o. done-holds o))
  rule-holds {p} {Γ} (Rule.lam {q = q} {A = A} {B = B} {b = b} {i = i} {u = u} {w = w}) small
      (AcceptsAll.more d hA f (AcceptsAll.more e hb k AcceptsAll.none)) c g x =
      no-failure _ _ x (λ y. type-holds E counted bodies A c.0 Γ i u _ g hA y)
      (λ r y z. no-failure _ _ z (λ v. c.1.0 p ((q, A) ∷ Γ) B w g hb v)
      (λ j v o. no-failure _ _ o
      (λ y. open-holds E counted bodies p Γ ((q, A) ∷ []) b B j.type w j.uses _ g hb k
      (derived E counted p ((q, A) ∷ Γ) b j v) y)
      (λ us y z. done-holds z)))
  rule-holds {p} {Γ} (Rule.app {q = q} {A = A} {B = B} {f = f} {a = a} {u = u} {w = w}) small
      (AcceptsAll.more d hf k (AcceptsAll.more e ha l AcceptsAll.none)) c g x =
      app-holds p Γ q f a A B u w g c.0 c.1.0 hf ha x
  rule-holds {p} {Γ} (Rule.fam {f = f} {ts = ts} {js = js} h a) small hs c g x =
      let b = subst (λ Θ. Args Θ closed ts js) (family-args f) (all-args a) in
      no-failure _ _ x (λ y. need-holds _ _ g
      (test-both (test-there (E.family f) h) (test-size (family_wants (fam_at E f)) b)) y)
      (λ r y z. no-failure _ _ z
      (λ v. arguments-hold E counted bodies ts c p Γ (family_wants (fam_at E f)) closed js g b hs v)
      (λ us v o. done-holds o))
  rule-holds {p} {Γ} (Rule.con {f = f} {n = m} {c = d} {ts = ts} {js = js} i a) small hs c g x =
      con-holds p Γ f m d ts js g (slice_get (fam_at E f).constructors m) (test-con i) c
      (subst (λ Θ. Args Θ closed ts js) (con-args f d) (all-args a)) hs x
  rule-holds {p} {Γ} (Rule.case {q = q} {f = f} {k = k} {m = m} {ns = ns} {ts = ts} {js = js} {R = R} h u a) small hs
      c g x =
      let r = cases-shaped a hs in
      let shape = test-both (eq-eqb k _ r.params)
      (test-both (eq-eqb m _ r.motive) (test-both r.branches (eq-eqb (size ts) _ r.whole))) in
      no-failure _ _ x (λ y. need-holds _ _ g
      (test-both (test-there (E.family f) h) (test-both (test-usable p q u) shape)) y)
      (λ r y z. cases-hold E counted bodies p Γ q f ts c (fam_at E f).params closed k m ns js R g a hs z)
  rule-holds {p} {Γ} (Rule.delete {q = q} {A = A} {s = t} {P = P} {b = b} {e = e} {l = l} {u₁ = u₁} {u₂ = u₂}
      {u₃ = u₃} {u₄ = u₄} {u₅ = u₅} u) small
      (AcceptsAll.more e₁ h₁ f₁
      (AcceptsAll.more e₂ h₂ f₂
      (AcceptsAll.more e₃ h₃ f₃ (AcceptsAll.more e₄ h₄ f₄ (AcceptsAll.more e₅ h₅ f₅ AcceptsAll.none))))) c g x =
      no-failure _ _ x (λ y. need-holds _ _ g (test-usable p q u) y) (λ r y x₁.
      no-failure _ _ x₁ (λ v. has-holds E counted bodies A c.0 Part.erased Γ (Sort 0) (Sort 0) u₁ _ g h₁ Conv.same v)
      (λ r v x₂.
      no-failure _ _ x₂ (λ v. has-holds E counted bodies t c.1.0 Part.erased Γ A A u₂ _ g h₂ Conv.same v) (λ r v x₃.
      no-failure _ _ x₃ (λ v. type-holds E counted bodies P c.1.1.0 ((q, EqTy A t t) ∷ Γ) l u₃ _ g h₃ v) (λ r v x₄.
      no-failure _ _ x₄
      (λ v. has-holds E counted bodies b c.1.1.1.0 p Γ (inst P (Refl A t)) (inst P (Refl A t)) u₄ _ g h₄ Conv.same v)
      (λ r v x₅. no-failure _ _ x₅
      (λ v. has-holds E counted bodies e c.1.1.1.1.0 (under p q) Γ (EqTy A t t) (EqTy A t t) u₅ _ g h₅ Conv.same v)
      (λ r v o. done-holds o))))))
  rule-holds {p} {Γ} (Rule.named {n = m} {ts = ts} {js = js} h u a) small hs c g x =
      let ws = wanted (at (rule_of m) 1) (signature E m).arguments in
      let b = subst (λ Θ. Args Θ closed ts js) (sym (tele_of-wanted (at (rule_of m) 1) (signature E m).arguments)) a in
      no-failure _ _ x
      (λ y. need-holds _ _ g
      (test-both (test-named E m h)
      (test-both (test-usable p (signature E m).mult u) (eq-eqb (size ts) _ (args-size a)))) y)
      (λ r y z. no-failure _ _ z
      (λ v. arguments-hold E counted bodies ts c p Γ (wanted (at (rule_of m) 1) (signature E m).arguments) closed
      js g b hs v) (λ us v o. done-holds o))
  rule-holds {p} {Γ} (Rule.trap {A = A} {i = i} {u = u}) small (AcceptsAll.more d hA f AcceptsAll.none) c g x =
      no-failure _ _ x (λ y. type-holds E counted bodies A c.0 Γ i u _ g hA y) (λ r y z. done-holds z)
  rule-holds Rule.tape small hs c g x = done-holds x

  mutual
    pub clean : (t : Term) → Clean E t
    clean (var i) p Γ A u f h x =
        let r = (inverted E p Γ).variable i A u (typed-of h) in
        no-failure _ _ x (λ y. need-holds _ _ f (test-both (test-scope Γ i r.0) (test-usable p (mult_at Γ i) r.1)) y)
        (λ a y z. done-holds z)
    clean (node F ts) p Γ A u f h x =
        let a = of-form h in rule-holds a.rule a.small a.components (all-clean ts) f x

    all-clean : (ts : Terms) → AllClean E ts
    all-clean ε = tt
    all-clean (t ▸ ts) = (clean t, all-clean ts)

  -- ---- how the judgement of an accepted term ends
  uses-so : (p : Part) (Γ : Ctx) (t A : Term) (u : Use) (j : Inferred) → Accepts E p Γ t A u →
      Ends E (infer E p Γ t) (Ending.ok j) →
      (i : ℕ) → InScope Γ i → u (Key.v i) ≡ usage_at j.uses i
  uses-so Part.run Γ t A u j h x i s =
      let d = derived E counted Part.run Γ t j x in one-accepted E t Γ A j.type u d.use_of_term h d.accepted
      (Key.v i) s ∙ d.counts (Key.v i) tt
  uses-so Part.erased Γ t A u j h x i s =
      let d = derived E counted Part.erased Γ t j x in zero-when-erased h (Key.v i) s ∙ sym (d.nothing tt (Key.v i))

  pub reports : (p : Part) (Γ : Ctx) (t A : Term) (u : Use) → Accepts E p Γ t A u → (e : Inference) →
      Ends E (infer E p Γ t) e → Reports E Γ A u e
  reports p Γ t A u h (Ending.ok j) x = (found-type E counted bodies p Γ t A u j h x, uses-so p Γ t A u j h x)
  reports p Γ t A u h (Ending.fails f) x = clean t p Γ A u f h x
  reports p Γ t A u h (Ending.spent r q) x = never-spent x

pub failures : (E : Env) → BodiesClosed E → ResultsCounted E → FailuresAreSo E
failures E bodies counted = record {
  refused = λ p Γ t f j x y. cc (one-ending E bodies (infer E p Γ t) (Ending.fails f) (Ending.ok j) x y);
  accepted = reports E counted bodies;
  typed = λ p Γ t A u h s n e x. reports E counted bodies p Γ t A u (accepted-of h s n) e x;
}
