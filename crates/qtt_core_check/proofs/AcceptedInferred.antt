-- What is inferred without a bound is exactly what is accepted.
use Rattle.std.proofs.Common.{◌≡◌, ℕ, ◌^◌, ◌-◌, ◌&&◌, eqb, List, [], ◌∷◌, length, Option, Some, None, slice_get, refl, sym, ◌∙◌, subst}
use Rattle.std.proofs.lemmas.Bool.{eq-eqb, lt-ltb}
use Rattle.qtt_base.specs.declared.place.GlobalId.{GlobalId}
use Rattle.qtt_usage.specs.declared.mult.Mult.{Mult}
use Rattle.qtt_usage.specs.Uses.{Key, Use}
use Rattle.qtt_usage.specs.Usage.{use_of}
use Rattle.qtt_term.specs.Term.{Form, binders, Term, Terms, var, node, ε, ◌▸◌, size, Sort, Pi}
use Rattle.qtt_term.specs.Substitution.{sub, push, inst, closed}
use Rattle.qtt_term.specs.Signature.{ConSig, Env, signature, fam_at, EqTy, Refl}
use Rattle.qtt_term.specs.Contraction.{Conv, BodiesClosed}
use Rattle.qtt_term.specs.Judgement.{Ctx, KeyIn, mult_at, Part, under, UseIs, Judged, Args, Rule}
use Rattle.qtt_term.specs.Environment.{NoTape, ResultsCounted}
use Rattle.qtt_term.specs.Accepted.{IsSmall, Accepts, AcceptsAll}
use Rattle.qtt_term.specs.Ask.{Ask, ◌>>=◌, Ending, Ends}
use Rattle.qtt_term.specs.Infer.{at, Inferred, inferred, infer, wanted, family_wants, constructor_wants, arguments, constructor_at, rule_of}
use Rattle.qtt_term.specs.Premises.{need}
use Rattle.qtt_term.specs.declared.rule.Rule.TheVariants as rule
use Rattle.qtt_term.proofs.Options.{some-injective}
use Rattle.qtt_confluence.proofs.Facts.{types_are_injective}
use Rattle.qtt_preserve.proofs.Inverted.{inverted}
use Rattle.qtt_preserve.proofs.Iota.{args-size}
use Rattle.qtt_core_check.specs.Laws.{AcceptedIsInferred, IsInferred}
use Rattle.qtt_core_check.proofs.Parts.{head-conv, function-found}
use Rattle.qtt_core_check.proofs.Lists.{Counts}
use Rattle.qtt_core_check.proofs.Arguments.{tele_of, tele_of-wanted}
use Rattle.qtt_core_check.proofs.OneUse.{UsesAgree, of-form, one-accepted}
use Rattle.qtt_core_check.proofs.Acceptance.{typed-of, zero-when-erased}
use Rattle.qtt_core_check.proofs.Sound.{derived, sound}
use Rattle.qtt_core_check.proofs.Clean.{found-type}
use Rattle.qtt_core_check.proofs.CleanCase.{cases-shaped}
use Rattle.qtt_core_check.proofs.NeverFails.{test-usable, test-same, test-scope, test-there, test-named, test-con, test-both, all-args, family-args, con-args, test-size, reports}
use Rattle.qtt_core_check.proofs.Answered.{Answered, and-then, answered-now, need-answered, function-answered}
use Rattle.qtt_core_check.proofs.Inferable.{Inferable, AllInferable, has-answered, type-answered, open-answered, arguments-answered}
use Rattle.qtt_core_check.proofs.InferableCase.{cases-answered}

module _ (E : Env) (counted : ResultsCounted E) (bodies : BodiesClosed E) where
  con-answered : (p : Part) (Γ : Ctx) (f : GlobalId) (n : ℕ) (c : ConSig) (ts : Terms) (js : List Judged)
      (o : Option ConSig) → o ≡ Some c →
      AllInferable E ts → Args (tele_of (constructor_wants (fam_at E f) c)) closed ts js → AcceptsAll E p Γ [] ts js →
      Answered E (constructor_at o
      (λ c. need (eqb (length (fam_at E f).params) (length (fam_at E f).params) && eqb (size ts)
      (length (constructor_wants (fam_at E f) c))) (at rule.Con 1)
      >>= (λ s. arguments E p Γ (constructor_wants (fam_at E f) c) closed ts >>=
      (λ u. Ask.done (inferred (sub (push ts closed) c.result) u)))))
  con-answered p Γ f n c ts js None e cs a hs = absurd (cc e)
  con-answered p Γ f n c ts js (Some d) e cs a hs =
      let b = subst (λ c. Args (tele_of (constructor_wants (fam_at E f) c)) closed ts js) (sym (some-injective e)) a in
      and-then _ _
      (need-answered _ _ (test-both (eq-eqb (length (fam_at E f).params) _ refl)
      (test-size E counted bodies (constructor_wants (fam_at E f) d) b)))
      (λ r y. and-then _ _
      (arguments-answered E counted bodies ts cs p Γ (constructor_wants (fam_at E f) d) closed js b hs)
      (λ us v. answered-now _))

  app-answered : (p : Part) (Γ : Ctx) (q : Mult) (h a A B : Term) (w z : Use) → Inferable E h → Inferable E a →
      Accepts E p Γ h (Pi q A B) w → Accepts E (under p q) Γ a A z →
      Answered E (infer E p Γ (node (Form.app q) (h ▸ a ▸ ε)))
  app-answered p Γ q h a A B w z ch ca th ta =
      and-then _ _ (ch p Γ (Pi q A B) w th) (λ j y.
      let found = found-type E counted bodies p Γ h (Pi q A B) w j th y in
      and-then _ _ (function-answered E bodies Γ j.type q A B _ found) (λ F v.
      let same = (types_are_injective E bodies).functions F.mult q F.domain F.codomain A B
      (Conv.thence (Conv.back (head-conv (function-found Γ j.type _ F v))) found) in
      and-then _ _ (need-answered _ _ (test-same q F.mult same.0)) (λ r v. and-then _ _
      (has-answered E counted bodies a ca (under p q) Γ A F.domain z _ ta (Conv.back same.1))
      (λ us v. answered-now _))))

  rule-answered : {p : Part} {Γ : Ctx} {F : Form} {ts : Terms} {js : List Judged} {R : Term} {own : Use} →
      Rule E p F ts js R own → IsSmall F → AcceptsAll E p Γ (binders F) ts js →
      AllInferable E ts → Answered E (infer E p Γ (node F ts))
  rule-answered (Rule.sort {l = l}) small hs c =
      and-then _ _ (need-answered _ _ (lt-ltb l (2 ^ 32 - 1) small)) (λ r y. answered-now _)
  rule-answered {p} {Γ} (Rule.pi {q = q} {A = A} {B = B} {i = i} {j = j} {u = u} {w = w}) small
      (AcceptsAll.more d hA f (AcceptsAll.more e hB k AcceptsAll.none)) c =
      and-then _ _ (type-answered E counted bodies A c.0 Γ i u _ hA)
      (λ r y. and-then _ _ (type-answered E counted bodies B c.1.0 ((q, A) ∷ Γ) j w _ hB) (λ r v. answered-now _))
  rule-answered {p} {Γ} (Rule.lam {q = q} {A = A} {B = B} {b = b} {i = i} {u = u} {w = w}) small
      (AcceptsAll.more d hA f (AcceptsAll.more e hb k AcceptsAll.none)) c =
      and-then _ _ (type-answered E counted bodies A c.0 Γ i u _ hA)
      (λ r y. and-then _ _ (c.1.0 p ((q, A) ∷ Γ) B w hb)
      (λ j v. and-then _ _
      (open-answered E counted bodies p Γ ((q, A) ∷ []) b B j.type w j.uses _ hb k
      (derived E counted p ((q, A) ∷ Γ) b j v))
      (λ us y. answered-now _)))
  rule-answered {p} {Γ} (Rule.app {q = q} {A = A} {B = B} {f = f} {a = a} {u = u} {w = w}) small
      (AcceptsAll.more d hf k (AcceptsAll.more e ha l AcceptsAll.none)) c =
      app-answered p Γ q f a A B u w c.0 c.1.0 hf ha
  rule-answered {p} {Γ} (Rule.fam {f = f} {ts = ts} {js = js} h a) small hs c =
      let b = subst (λ Θ. Args Θ closed ts js) (family-args E counted bodies f) (all-args a) in
      and-then _ _
      (need-answered _ _
      (test-both (test-there (E.family f) h) (test-size E counted bodies (family_wants (fam_at E f)) b)))
      (λ r y. and-then _ _
      (arguments-answered E counted bodies ts c p Γ (family_wants (fam_at E f)) closed js b hs)
      (λ us v. answered-now _))
  rule-answered {p} {Γ} (Rule.con {f = f} {n = m} {c = d} {ts = ts} {js = js} i a) small hs c =
      con-answered p Γ f m d ts js (slice_get (fam_at E f).constructors m) (test-con i) c
      (subst (λ Θ. Args Θ closed ts js) (con-args E counted bodies f d) (all-args a)) hs
  rule-answered {p} {Γ} (Rule.case {q = q} {f = f} {k = k} {m = m} {ns = ns} {ts = ts} {js = js} {R = R} h u a) small hs
      c =
      let r = cases-shaped a hs in
      let shape = test-both (eq-eqb k _ r.params)
      (test-both (eq-eqb m _ r.motive) (test-both r.branches (eq-eqb (size ts) _ r.whole))) in
      and-then _ _ (need-answered _ _
      (test-both (test-there (E.family f) h) (test-both (test-usable p q u) shape)))
      (λ r y. cases-answered E counted bodies p Γ q f ts c (fam_at E f).params closed k m ns js R a hs)
  rule-answered {p} {Γ} (Rule.delete {q = q} {A = A} {s = t} {P = P} {b = b} {e = e} {l = l} {u₁ = u₁} {u₂ = u₂}
      {u₃ = u₃} {u₄ = u₄} {u₅ = u₅} u) small
      (AcceptsAll.more e₁ h₁ f₁
      (AcceptsAll.more e₂ h₂ f₂
      (AcceptsAll.more e₃ h₃ f₃ (AcceptsAll.more e₄ h₄ f₄ (AcceptsAll.more e₅ h₅ f₅ AcceptsAll.none))))) c =
      and-then _ _ (need-answered _ _ (test-usable p q u)) (λ r y. and-then _ _
      (has-answered E counted bodies A c.0 Part.erased Γ (Sort 0) (Sort 0) u₁ _ h₁ Conv.same) (λ r v. and-then _ _
      (has-answered E counted bodies t c.1.0 Part.erased Γ A A u₂ _ h₂ Conv.same) (λ r v. and-then _ _
      (type-answered E counted bodies P c.1.1.0 ((q, EqTy A t t) ∷ Γ) l u₃ _ h₃) (λ r v. and-then _ _
      (has-answered E counted bodies b c.1.1.1.0 p Γ (inst P (Refl A t)) (inst P (Refl A t)) u₄ _ h₄ Conv.same)
      (λ r v. and-then _ _
      (has-answered E counted bodies e c.1.1.1.1.0 (under p q) Γ (EqTy A t t) (EqTy A t t) u₅ _ h₅ Conv.same)
      (λ r v. answered-now _))))))
  rule-answered {p} {Γ} (Rule.named {n = m} {ts = ts} {js = js} h u a) small hs c =
      let b = subst (λ Θ. Args Θ closed ts js) (sym (tele_of-wanted (at (rule_of m) 1) (signature E m).arguments)) a in
      and-then _ _
      (need-answered _ _
      (test-both (test-named E m h)
      (test-both (test-usable p (signature E m).mult u) (eq-eqb (size ts) _ (args-size a)))))
      (λ r y. and-then _ _
      (arguments-answered E counted bodies ts c p Γ (wanted (at (rule_of m) 1) (signature E m).arguments) closed
      js b hs)
      (λ us v. answered-now _))
  rule-answered {p} {Γ} (Rule.trap {A = A} {i = i} {u = u}) small (AcceptsAll.more d hA f AcceptsAll.none) c =
      and-then _ _ (type-answered E counted bodies A c.0 Γ i u _ hA) (λ r y. answered-now _)
  rule-answered Rule.tape small hs c = answered-now _

  mutual
    pub inferable : (t : Term) → Inferable E t
    inferable (var i) p Γ A u h =
        let r = (inverted E p Γ).variable i A u (typed-of h) in
        and-then _ _ (need-answered _ _ (test-both (test-scope Γ i r.0) (test-usable p (mult_at Γ i) r.1)))
        (λ a y. answered-now _)
    inferable (node F ts) p Γ A u h =
        let a = of-form h in rule-answered a.rule a.small a.components (all-inferable ts)

    all-inferable : (ts : Terms) → AllInferable E ts
    all-inferable ε = tt
    all-inferable (t ▸ ts) = (inferable t, all-inferable ts)

  -- ---- exactly
  uses-at : (p : Part) (Γ : Ctx) (t A : Term) (u : Use) (j : Inferred) → Accepts E p Γ t A u →
      Ends E (infer E p Γ t) (Ending.ok j) → (x : Key) → KeyIn Γ x → Counts (NoTape t) x → u x ≡ use_of j.uses x
  uses-at Part.run Γ t A u j h x k s c =
      let d = derived E counted Part.run Γ t j x in
      one-accepted E t Γ A j.type u d.use_of_term h d.accepted k s ∙ d.counts k c
  uses-at Part.erased Γ t A u j h x k s c =
      let d = derived E counted Part.erased Γ t j x in zero-when-erased h k s ∙ sym (d.nothing tt k)

  counts-all : (t : Term) → NoTape t → (x : Key) → Counts (NoTape t) x
  counts-all t n (Key.v i) = tt
  counts-all t n (Key.h i) = n

  use-as : (p : Part) (Γ : Ctx) (u w v : Use) → UsesAgree Γ u w → UseIs p Γ v w → UseIs p Γ v u
  use-as Part.run Γ u w v g e = λ x s. g x s ∙ e x s
  use-as Part.erased Γ u w v g e = λ x s. g x s ∙ e x s

  -- a derivation gives each use that is its own in the context
  accepts-as : {p : Part} {Γ : Ctx} {t A : Term} {w : Use} (u : Use) → Accepts E p Γ t A w → UsesAgree Γ u w →
      Accepts E p Γ t A u
  accepts-as {p} {Γ} u (Accepts.variable {u = w} s m e) g = Accepts.variable s m (use-as p Γ u w _ g e)
  accepts-as {p} {Γ} u (Accepts.by_rule {u = w} r s hs e) g = Accepts.by_rule r s hs (use-as p Γ u w _ g e)
  accepts-as u (Accepts.conversion h c) g = Accepts.conversion (accepts-as u h g) c

  as-inferred : (p : Part) (Γ : Ctx) (t A : Term) (u : Use) → NoTape t → Accepts E p Γ t A u →
      IsInferred E p Γ t A u
  as-inferred p Γ t A u n h =
      let a = inferable t p Γ A u h in record {
        inferred = a.answer;
        ends = a.ends;
        type = found-type E counted bodies p Γ t A u a.answer h a.ends;
        uses = λ x s. uses-at p Γ t A u a.answer h a.ends x s (counts-all t n x);
      }

  as-accepted : (p : Part) (Γ : Ctx) (t A : Term) (u : Use) → NoTape t → IsInferred E p Γ t A u →
      Accepts E p Γ t A u
  as-accepted p Γ t A u n r =
      let d = derived E counted p Γ t r.inferred r.ends in
      Accepts.conversion
      (accepts-as u d.accepted (λ x s. r.uses x s ∙ sym (d.counts x (counts-all t n x)))) r.type

pub accepted-inferred : (E : Env) → BodiesClosed E → ResultsCounted E → AcceptedIsInferred E
accepted-inferred E bodies counted = record {
  derived = (sound E counted).accepts_uses;
  inferred = λ p Γ t A u h.
      let a = inferable E counted bodies t p Γ A u h in
      (a.answer, a.ends, reports E counted bodies p Γ t A u h (Ending.ok a.answer) a.ends);
  exactly = λ p Γ t A u n. (as-inferred E counted bodies p Γ t A u n, as-accepted E counted bodies p Γ t A u n);
}
