-- Heads of types that are convertible to a Sort, a function type or a family.
use Rattle.std.proofs.Common.{◌≡◌, ℕ, Bool, true, false, ◌&&◌, cond, eqb, Some, None, refl, ◌∙◌, ap, subst}
use Rattle.std.proofs.lemmas.Bool.{eq-eqb}
use Rattle.qtt_base.specs.declared.place.GlobalId.{GlobalId}
use Rattle.qtt_usage.specs.declared.mult.Mult.{Mult}
use Rattle.qtt_term.specs.Term.{Form, Term, Terms, var, node, ε, ◌▸◌, size, Sort, Pi, Fam, same_id}
use Rattle.qtt_term.specs.Signature.{Env}
use Rattle.qtt_term.specs.Contraction.{Conv, BodiesClosed}
use Rattle.qtt_term.specs.Judgement.{Ctx}
use Rattle.qtt_term.specs.Ask.{Ask, ◌>>=◌, Ending, Ends, HeadIs}
use Rattle.qtt_term.specs.Infer.{Premise, agree, sort_of, function_of, as_family, family_of}
use Rattle.qtt_term.specs.Forms.{as_sort, as_function}
use Rattle.qtt_term.specs.Premises.{need, found}
use Rattle.qtt_term.proofs.Same.{id-same}
use Rattle.qtt_confluence.specs.Heads.{IsHead, Outline, outline, parts}
use Rattle.qtt_confluence.specs.Injective.{Convs}
use Rattle.qtt_confluence.proofs.Injective.{stiff-sort, stiff-pi, stiff-fam}
use Rattle.qtt_confluence.proofs.Facts.{head_is_exact, convertible_heads_agree, different_is_apart}
use Rattle.qtt_core_check.proofs.Parts.{head-conv}

-- ---- lists of questions that do not fail
pub no-failure : {E : Env} {F P A B : Type 0} {f : F} (m : Ask F P A) (k : A → Ask F P B) →
    Ends E (m >>= k) (Ending.fails f) →
    (Ends E m (Ending.fails f) → ⊥) → ((a : A) → Ends E m (Ending.ok a) → Ends E (k a) (Ending.fails f) → ⊥) → ⊥
unfolding ◌>>=◌
no-failure (Ask.done a) k x n s = s a Ends.is_done x
no-failure (Ask.fail g) k Ends.has_failed n s = n Ends.has_failed
no-failure (Ask.head p d t g) k (Ends.has_head {h = h} e x) n s =
    no-failure (g h) k x (λ y. n (Ends.has_head e y)) (λ a y z. s a (Ends.has_head e y) z)
no-failure (Ask.read p d t g) k (Ends.has_reading {r = h} e x) n s =
    no-failure (g h) k x (λ y. n (Ends.has_reading e y)) (λ a y z. s a (Ends.has_reading e y) z)
no-failure (Ask.compare p d t r m w) k (Ends.are_equal e x) n s =
    no-failure m k x (λ y. n (Ends.are_equal e y)) (λ a y z. s a (Ends.are_equal e y) z)
no-failure (Ask.compare p d t r m w) k (Ends.are_different e x) n s =
    no-failure w k x (λ y. n (Ends.are_different e y)) (λ a y z. s a (Ends.are_different e y) z)

pub done-holds : {E : Env} {F P A : Type 0} {f : F} {a : A} →
    Ends E {F = F} {P = P} {A = A} (Ask.done a) (Ending.fails f) → ⊥
done-holds x = elim x [ ]

pub need-holds : {E : Env} (b : Bool) (p f : Premise) → b ≡ true →
    Ends E {P = Unit {0}} (need b p) (Ending.fails f) → ⊥
unfolding need
need-holds true p f e x = elim x [ ]
need-holds false p f e x = absurd (cc e)

pub agree-holds : {E : Env} → BodiesClosed E → (Γ : Ctx) (t s : Term) (p f : Premise) → Conv E t s →
    Ends E (agree Γ t s p) (Ending.fails f) → ⊥
unfolding agree
agree-holds bodies Γ t s p f c (Ends.are_equal e x) = elim x [ ]
agree-holds {E} bodies Γ t s p f c (Ends.are_different e x) = different_is_apart E bodies e.bound t s e.path e.is c

choice-holds : {E : Env} (b : Bool) (p f : Premise) (ts : Terms) → b ≡ true →
    Ends E {F = Premise} {P = Unit {0}} {A = Terms} (found (cond b (Some ts) None) p) (Ending.fails f) → ⊥
choice-holds true p f ts e x = elim x [ ]
choice-holds false p f ts e x = absurd (cc e)

-- ---- heads
no-parts : (ts : Terms) → size ts ≡ 0 → ts ≡ ε
no-parts ε e = refl
no-parts (t ▸ ts) e = absurd (cc e)

two-parts : (ts : Terms) → size ts ≡ 2 → (A : Term) × (B : Term) × (ts ≡ A ▸ B ▸ ε)
two-parts ε e = absurd (cc e)
two-parts (A ▸ ε) e = absurd (cc e)
two-parts (A ▸ B ▸ ε) e = (A, B, refl)
two-parts (A ▸ B ▸ C ▸ ts) e = absurd (cc e)

-- a term whose outline is a form's is of this form
of-outline : (h : Term) (F : Form) (n : ℕ) → outline h ≡ Outline.form F n →
    (ts : Terms) × (h ≡ node F ts) × (size ts ≡ n)
of-outline (var i) F n e = absurd (cc e)
of-outline (node G ts) F n e = let d : G ≡ F = cc e in let s : size ts ≡ n = cc e in (ts, ap (λ F. node F ts) d, s)

module _ (E : Env) (bodies : BodiesClosed E) where
  head-found : (A h : Term) → HeadIs E A h → IsHead E h
  head-found A h x = ((head_is_exact.found E x.bound x.made A h).0 x.is).1

  pub form-found : (A h : Term) (F : Form) (ts : Terms) → HeadIs E A h → IsHead E (node F ts) → Conv E A (node F ts) →
      (ss : Terms) × (h ≡ node F ss) × (size ss ≡ size ts) × Convs E ss ts
  form-found A h F ts x n c =
      let r = convertible_heads_agree E bodies h (node F ts) (head-found A h x) n
      (Conv.thence (Conv.back (head-conv x)) c) in
      let (ss, e, s) = of-outline h F (size ts) r.0 in
      (ss, e, s, subst (λ h. Convs E (parts h) ts) e r.1)

  pub sort-head : (l : ℕ) → IsHead E (Sort l)
  sort-head l = rw (stiff-sort E l ε) refl

  pub pi-head : (q : Mult) (A B : Term) → IsHead E (Pi q A B)
  pi-head q A B = rw (stiff-pi E q (A ▸ B ▸ ε)) refl

  pub fam-head : (f : GlobalId) (ts : Terms) → IsHead E (Fam f ts)
  fam-head f ts = rw (stiff-fam E f ts) refl

  pub sort-holds : (Γ : Ctx) (A : Term) (l : ℕ) (p f : Premise) → Conv E A (Sort l) →
      Ends E (sort_of Γ A p) (Ending.fails f) → ⊥
  unfolding sort_of
  sort-holds Γ A l p f c (Ends.has_head {h = h} x y) =
      let (ss, e, s, d) = form-found A h (Form.sort l) ε x (sort-head l) c in
      done-holds (subst (λ h. Ends E {P = Unit {0}} (found (as_sort h) p) (Ending.fails f))
      (e ∙ ap (node (Form.sort l)) (no-parts ss s)) y)

  pub function-holds : (Γ : Ctx) (A : Term) (q : Mult) (B C : Term) (p f : Premise) → Conv E A (Pi q B C) →
      Ends E (function_of Γ A p) (Ending.fails f) → ⊥
  unfolding function_of
  function-holds Γ A q B C p f c (Ends.has_head {h = h} x y) =
      let (ss, e, s, d) = form-found A h (Form.pi q) (B ▸ C ▸ ε) x (pi-head q B C) c in
      let (D, G, g) = two-parts ss s in
      done-holds (subst (λ h. Ends E {P = Unit {0}} (found (as_function h) p) (Ending.fails f))
      (e ∙ ap (node (Form.pi q)) g) y)

  pub family-holds : (Γ : Ctx) (A : Term) (g : GlobalId) (n : ℕ) (ts : Terms) (p f : Premise) → Conv E A (Fam g ts) →
      size ts ≡ n →
      Ends E (family_of Γ g n A p) (Ending.fails f) → ⊥
  unfolding family_of
  family-holds Γ A g n ts p f c z (Ends.has_head {h = h} x y) =
      let (ss, e, s, d) = form-found A h (Form.fam g) ts x (fam-head g ts) c in
      let t : (same_id g g && eqb (size ss) n) ≡ true = rw (id-same g, eq-eqb (size ss) n (s ∙ z)) refl in
      choice-holds (same_id g g && eqb (size ss) n) p f ss t
      (subst (λ h. Ends E {P = Unit {0}} (found (as_family g n h) p) (Ending.fails f)) e y)
