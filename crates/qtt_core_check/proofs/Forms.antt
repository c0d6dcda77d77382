-- An answer for each form without a list of components.
use Rattle.std.proofs.Common.{◌≡◌, ℕ, zero, suc, ◌<◌, ◌^◌, ◌-◌, true, T, List, [], ◌∷◌, length, refl, sym, ◌∙◌, ap, subst, arith}
use mathlib.Core.Path.{ap₂}
use Rattle.std.proofs.lemmas.Bool.{ltb-true, and_parts}
use Rattle.std.proofs.lemmas.List.{length-set}
use Rattle.std.specs.Prelude.{nat_lt}
use Rattle.qtt_usage.specs.declared.mult.Mult.{Mult}
use Rattle.qtt_usage.specs.Mult.{𝟘, 𝟙, ω, ◌⊕◌, ◌⊙◌}
use Rattle.qtt_usage.specs.Uses.{Key, Use, zero_use, unit, out}
use Rattle.qtt_usage.specs.Usage.{usage_scale, no_usage, use_of}
use Rattle.qtt_usage.proofs.Mults.{⊕-zero, ⊕-comm, same-equal}
use Rattle.qtt_usage.proofs.UsageLemmas.{none_at, unit_at, sum_at, scale_at}
use Rattle.qtt_term.specs.Term.{Form, binders, Term, Terms, var, node, Sort, Pi, Lam, App, Delete, Trap, Tape}
use Rattle.qtt_term.specs.Substitution.{inst}
use Rattle.qtt_term.specs.Signature.{Env, EqTy, Refl}
use Rattle.qtt_term.specs.Judgement.{Ctx, InScope, mult_at, type_at, Part, under, Usable, Judged, total, Rule}
use Rattle.qtt_term.specs.Environment.{NoTape}
use Rattle.qtt_term.specs.Accepted.{live, own_of, IsSmall, Accepts, AcceptsAll}
use Rattle.qtt_term.specs.Infer.{usable, use_at}
use Rattle.qtt_preserve.proofs.Travel.{always}
use Rattle.qtt_core_check.proofs.Parts.{parts, ended, holding, head-conv, function-found}
use Rattle.qtt_core_check.proofs.Lists.{IsNothing, Counts, counts-in, length-sum, length-scaled, length-none, nothing-sum, nothing-scaled}
use Rattle.qtt_core_check.proofs.Derived.{erased-under, Derived, Gives, by-rule, had, type-had, opened}

pub is-usable : (p : Part) (q : Mult) → usable p q ≡ true → Usable p q
is-usable Part.run 𝟘 e = absurd (cc e)
is-usable Part.run 𝟙 e = tt
is-usable Part.run ω e = tt
is-usable Part.erased q e = tt

in-scope : (Γ : Ctx) (i : ℕ) → i < length Γ → InScope Γ i
in-scope [] i h = absurd (omega arith)
in-scope (b ∷ Γ) zero h = tt
in-scope (b ∷ Γ) (suc i) h = in-scope Γ i (omega arith)

pub nothing-used : (n : ℕ) → IsNothing (no_usage n)
nothing-used n x = none_at n x

no-tape : (n : ℕ) (x : Key) → Counts (NoTape (Tape n)) x → total (unit (Key.h n)) [] x ≡ 𝟘
no-tape n (Key.v i) c = refl
no-tape n (Key.h k) c = absurd (c.0 tt)

module _ {E : Env} where
  of-variable : (p : Part) (Γ : Ctx) (i : ℕ) → i < length Γ → Usable p (mult_at Γ i) →
      Derived E p Γ (var i) (type_at Γ i) (use_at p (length Γ) i)
  of-variable Part.run Γ i h m = record {
    use_of_term = unit (Key.v i);
    accepted = Accepts.variable (in-scope Γ i h) m (λ x s. refl);
    counts = λ x c. sym (unit_at (length Γ) i x h);
    counted = length-set (no_usage (length Γ)) i 𝟙 ∙ length-none (length Γ);
    nothing = λ e. absurd e;
  }
  of-variable Part.erased Γ i h m = record {
    use_of_term = zero_use;
    accepted = Accepts.variable (in-scope Γ i h) m (λ x s. refl);
    counts = λ x c. sym (none_at (length Γ) x);
    counted = length-none (length Γ);
    nothing = λ e. nothing-used (length Γ);
  }

  pub variable-gives : (i : ℕ) → Gives E (var i)
  variable-gives i p Γ j x =
      let a = parts _ _ _ x in
      let (h, m) = and_parts (nat_lt i (length Γ)) (usable p (mult_at Γ i)) (holding _ _ a.mid a.first) in
      subst (λ j. Derived E p Γ (var i) j.type j.uses) (ended _ _ a.after)
      (of-variable p Γ i (ltb-true i (length Γ) h) (is-usable p (mult_at Γ i) m))

  -- what uses nothing
  idle : (p : Part) {Γ : Ctx} {F : Form} {ts : Terms} {R : Term} {js : List Judged} {own : Use} →
      Rule E p F ts js R own → IsSmall F →
      AcceptsAll E p Γ (binders F) ts js →
      ((x : Key) → Counts (NoTape (node F ts)) x → total (own_of F) (live ts js) x ≡ 𝟘) →
      Derived E p Γ (node F ts) R (no_usage (length Γ))
  idle p {Γ} r s hs e = by-rule p r s hs (length-none (length Γ)) (λ i. nothing-used (length Γ))
      (λ x c. e x c ∙ sym (none_at (length Γ) x))

  pub sort-gives : (l : ℕ) → Gives E (Sort l)
  sort-gives l p Γ j x =
      let a = parts _ _ _ x in
      subst (λ j. Derived E p Γ (Sort l) j.type j.uses) (ended _ _ a.after)
      (idle p Rule.sort (ltb-true l (2 ^ 32 - 1) (holding _ _ a.mid a.first)) AcceptsAll.none (λ x c. refl))

  pub pi-gives : (q : Mult) (A B : Term) → Gives E A → Gives E B → Gives E (Pi q A B)
  pi-gives q A B gA gB p Γ j x =
      let a = parts _ _ _ x in
      let b = parts _ _ _ a.after in
      let (u, hA) = type-had Γ A _ a.mid gA a.first in
      let (w, hB) = type-had ((q, A) ∷ Γ) B _ b.mid gB b.first in
      subst (λ j. Derived E p Γ (Pi q A B) j.type j.uses) (ended _ _ b.after)
      (idle p Rule.pi tt (AcceptsAll.more refl hA tt (AcceptsAll.more refl hB tt AcceptsAll.none)) (λ x c. refl))

  pub lam-gives : (q : Mult) (A b : Term) → Gives E A → Gives E b → Gives E (Lam q A b)
  lam-gives q A b gA gb p Γ j x =
      let a = parts _ _ _ x in
      let c = parts _ _ _ a.after in
      let d = parts _ _ _ c.after in
      let (u, hA) = type-had Γ A _ a.mid gA a.first in
      let o = opened p Γ ((q, A) ∷ []) b c.mid.type c.mid.uses d.mid _ (gb p ((q, A) ∷ Γ) c.mid c.first) d.first in
      subst (λ j. Derived E p Γ (Lam q A b) j.type j.uses) (ended _ _ d.after)
      (by-rule p Rule.lam tt (AcceptsAll.more refl hA tt (AcceptsAll.more refl o.accepted o.fit AcceptsAll.none))
      o.counted o.nothing
      (λ x k. ⊕-zero _ ∙ ⊕-zero (out o.use_of_term x) ∙ o.counts x (counts-in (λ n. n.1.1.0) x k)))

  pub app-gives : (q : Mult) (f a : Term) → Gives E f → Gives E a → Gives E (App q f a)
  app-gives q f a gf ga p Γ j x =
      let b = parts _ _ _ x in
      let c = parts _ _ _ b.after in
      let d = parts _ _ _ c.after in
      let e = parts _ _ _ d.after in
      let F = c.mid in
      let df = gf p Γ b.mid b.first in
      let same : F.mult ≡ q = sym (same-equal q F.mult (subst T (sym (holding _ _ d.mid d.first)) tt)) in
      let hf = Accepts.conversion df.accepted (head-conv (function-found Γ b.mid.type _ F c.first)) in
      let da = had (under p q) Γ a F.domain _ e.mid ga e.first in
      let l = length-scaled q e.mid ∙ da.counted in
      subst (λ j. Derived E p Γ (App q f a) j.type j.uses) (ended _ _ e.after)
      (by-rule p Rule.app tt
      (AcceptsAll.more refl (subst (λ m. Accepts E p Γ f (Pi m F.domain F.codomain) df.use_of_term) same hf)
      (always p (λ e. tt)) (AcceptsAll.more refl da.accepted (always (under p q) (λ e. tt)) AcceptsAll.none))
      (length-sum b.mid.uses (usage_scale q e.mid) (length Γ) df.counted l)
      (λ i. nothing-sum b.mid.uses (usage_scale q e.mid) (df.counted ∙ sym l) (df.nothing i)
      (nothing-scaled q e.mid (da.nothing (erased-under p q i))))
      (λ x k.
      ⊕-zero _ ∙ ap (λ m. df.use_of_term x ⊕ m) (⊕-zero (q ⊙ da.use_of_term x))
      ∙ ap₂ (λ m n. m ⊕ q ⊙ n) (df.counts x (counts-in (λ n. n.1.0) x k)) (da.counts x (counts-in (λ n. n.1.1.0) x k))
      ∙ sym (sum_at b.mid.uses (usage_scale q e.mid) x (df.counted ∙ sym l)
      ∙ ap (λ m. use_of b.mid.uses x ⊕ m) (scale_at q e.mid x))))

  pub delete-gives : (q : Mult) (A s P b e : Term) → Gives E A → Gives E s → Gives E P → Gives E b → Gives E e →
      Gives E (Delete q A s P b e)
  delete-gives q A s P b e gA gs gP gb ge p Γ j x =
      let a₁ = parts _ _ _ x in
      let a₂ = parts _ _ _ a₁.after in
      let a₃ = parts _ _ _ a₂.after in
      let a₄ = parts _ _ _ a₃.after in
      let a₅ = parts _ _ _ a₄.after in
      let a₆ = parts _ _ _ a₅.after in
      let hA = had Part.erased Γ A (Sort 0) _ a₂.mid gA a₂.first in
      let hs = had Part.erased Γ s A _ a₃.mid gs a₃.first in
      let (u, hP) = type-had ((q, EqTy A s s) ∷ Γ) P _ a₄.mid gP a₄.first in
      let hb = had p Γ b (inst P (Refl A s)) _ a₅.mid gb a₅.first in
      let he = had (under p q) Γ e (EqTy A s s) _ a₆.mid ge a₆.first in
      let l = length-scaled q a₆.mid ∙ he.counted in
      subst (λ j. Derived E p Γ (Delete q A s P b e) j.type j.uses) (ended _ _ a₆.after)
      (by-rule p (Rule.delete (is-usable p q (holding _ _ a₁.mid a₁.first))) tt
      (AcceptsAll.more refl hA.accepted tt (AcceptsAll.more refl hs.accepted tt (AcceptsAll.more refl hP tt
      (AcceptsAll.more refl hb.accepted (always p (λ e. tt))
      (AcceptsAll.more refl he.accepted (always (under p q) (λ e. tt)) AcceptsAll.none)))))
      (length-sum (usage_scale q a₆.mid) a₅.mid (length Γ) l hb.counted)
      (λ i. nothing-sum (usage_scale q a₆.mid) a₅.mid (l ∙ sym hb.counted)
      (nothing-scaled q a₆.mid (he.nothing (erased-under p q i))) (hb.nothing i))
      (λ x k.
      ⊕-zero _ ∙ ap (λ m. hb.use_of_term x ⊕ m) (⊕-zero (q ⊙ he.use_of_term x))
      ∙ ⊕-comm (hb.use_of_term x) (q ⊙ he.use_of_term x)
      ∙ ap₂ (λ m n. q ⊙ m ⊕ n) (he.counts x (counts-in (λ n. n.1.1.1.1.1.0) x k))
      (hb.counts x (counts-in (λ n. n.1.1.1.1.0) x k))
      ∙ sym (sum_at (usage_scale q a₆.mid) a₅.mid x (l ∙ sym hb.counted)
      ∙ ap (λ m. m ⊕ use_of a₅.mid x) (scale_at q a₆.mid x))))

  pub trap-gives : (A : Term) → Gives E A → Gives E (Trap A)
  trap-gives A gA p Γ j x =
      let a = parts _ _ _ x in
      let (u, hA) = type-had Γ A _ a.mid gA a.first in
      subst (λ j. Derived E p Γ (Trap A) j.type j.uses) (ended _ _ a.after)
      (idle p (Rule.trap {any = zero_use}) tt (AcceptsAll.more refl hA tt AcceptsAll.none) (λ x c. refl))

  pub tape-gives : (n : ℕ) → Gives E (Tape n)
  tape-gives n p Γ j x =
      subst (λ j. Derived E p Γ (Tape n) j.type j.uses) (ended _ _ x) (idle p Rule.tape tt AcceptsAll.none (no-tape n))
