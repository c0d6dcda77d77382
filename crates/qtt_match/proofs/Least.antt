-- The tests of first match are their relations.
use Rattle.std.proofs.Common.{◌≡◌, ◌↔◌, ℕ, zero, suc, ◌+◌, Bool, true, false, cond, eqb, List, [], ◌∷◌, take, slice_get, Option, Some, None, refl, sym, ap, subst, ◌∙◌, ◌⊎◌, inl, inr, arith}
use Rattle.std.proofs.lemmas.Bool.{and_parts, and_from, eq-eqb, eqb-true}
use mathlib.Core.Path.{ap₂}
use Rattle.qtt_base.specs.declared.place.GlobalId.{GlobalId}
use Rattle.qtt_syntax.specs.declared.expr.Named.{Named}
use Rattle.qtt_syntax.specs.Tree.{Shape, Shapes, shapes}
use Rattle.qtt_syntax.specs.Tree.Shape.{variable, wildcard, constructor, dot}
use Rattle.qtt_syntax.specs.Tree.Shapes.{no_shape, shape_and}
use Rattle.qtt_term.specs.declared.term.ConId.{ConId}
use Rattle.qtt_term.specs.Items.{FamilyEntry}
use Rattle.qtt_term.specs.Term.{Form, Term, Terms, node, ε, ◌▸◌, skip, same_id}
use Rattle.qtt_term.proofs.Options.{none≢some, some-injective}
use Rattle.qtt_term.proofs.Same.{same_id-is, id-same}
use Rattle.qtt_match.specs.Constructors.{named_constructor, is_constructor, names_constructor}
use Rattle.qtt_match.specs.Match.{Fits, AllFit, NoneFits, IsFirstMatch, fits, all_fit, first_from, first_match}
use Rattle.qtt_match.specs.Laws.{FirstMatchIsLeast}

-- ---- constructors
constructor-is : (f : GlobalId) (c : ℕ) (o : Option ConId) → is_constructor f c o ≡ true →
    o ≡ Some (record { family = f; place = c })
constructor-is f c None e = absurd (cc e)
constructor-is f c (Some d) e =
    let p = and_parts (same_id f d.family) (eqb c d.place) e in
    ap Some (ap₂ (λ g i. record { family = g; place = i }) (sym (same_id-is f d.family p.0))
    (sym (eqb-true c d.place p.1)))

is-constructor : (f : GlobalId) (c : ℕ) → is_constructor f c (Some (record { family = f; place = c })) ≡ true
is-constructor f c = and_from (same_id f f) (eqb c c) (id-same f) (eq-eqb c c refl)

names-so : (Fs : List FamilyEntry) (h : Named) (f : GlobalId) (c : ℕ) →
    named_constructor Fs h.target ≡ Some (record { family = f; place = c }) → names_constructor Fs h f c ≡ true
names-so Fs h f c e = ap (is_constructor f c) e ∙ is-constructor f c

-- ---- patterns that fit
mutual
  pub fits_is : (Fs : List FamilyEntry) (p : Shape) (t : Term) → fits Fs p t ≡ true → Fits Fs p t
  fits_is Fs (variable m n s) t e = Fits.variable_fits
  fits_is Fs (wildcard m s) t e = Fits.wildcard_fits
  fits_is Fs (dot m d s) t e = Fits.dot_fits
  fits_is Fs (constructor m h ps s) (node (Form.con f c k) ts) e =
      let parts = and_parts (names_constructor Fs h f c) (all_fit Fs ps (skip k ts)) e in
      Fits.constructor_fits (constructor-is f c (named_constructor Fs h.target) parts.0)
      (all_fit_is Fs ps (skip k ts) parts.1)
  fits_is Fs (constructor m h ps s) _ e = absurd (cc e)

  pub all_fit_is : (Fs : List FamilyEntry) (ps : Shapes) (ts : Terms) → all_fit Fs ps ts ≡ true → AllFit Fs ps ts
  all_fit_is Fs no_shape ε e = AllFit.none_left
  all_fit_is Fs (shape_and p ps) (t ▸ ts) e =
      let parts = and_parts (fits Fs p t) (all_fit Fs ps ts) e in
      AllFit.and_fits (fits_is Fs p t parts.0) (all_fit_is Fs ps ts parts.1)
  all_fit_is Fs no_shape (t ▸ ts) e = absurd (cc e)
  all_fit_is Fs (shape_and p ps) ε e = absurd (cc e)

mutual
  pub fits_so : (Fs : List FamilyEntry) (p : Shape) (t : Term) → Fits Fs p t → fits Fs p t ≡ true
  fits_so Fs _ t Fits.variable_fits = refl
  fits_so Fs _ t Fits.wildcard_fits = refl
  fits_so Fs _ t Fits.dot_fits = refl
  fits_so Fs _ _ (Fits.constructor_fits {h = h} {ps = ps} {f = f} {c = c} {k = k} {ts = ts} n a) =
      and_from (names_constructor Fs h f c) (all_fit Fs ps (skip k ts)) (names-so Fs h f c n)
      (all_fit_so Fs ps (skip k ts) a)

  pub all_fit_so : (Fs : List FamilyEntry) (ps : Shapes) (ts : Terms) → AllFit Fs ps ts → all_fit Fs ps ts ≡ true
  all_fit_so Fs _ _ AllFit.none_left = refl
  all_fit_so Fs _ _ (AllFit.and_fits {p = p} {ps = ps} {t = t} {ts = ts} a b) =
      and_from (fits Fs p t) (all_fit Fs ps ts) (fits_so Fs p t a) (all_fit_so Fs ps ts b)

-- ---- the least clause
plus-zero : (j : ℕ) → j + 0 ≡ j
plus-zero j = omega arith

module _ (Fs : List FamilyEntry) (ts : Terms) where
  abbrev At : List (List Shape) → ℕ → Type 0
  At cs i = NoneFits Fs (take i cs) ts × ((ps : List Shape) × (slice_get cs i ≡ Some ps) × AllFit Fs (shapes ps) ts)

  abbrev Found : ℕ → List (List Shape) → Type 0
  Found n cs =
      (first_from Fs n cs ts ≡ None) × NoneFits Fs cs ts ⊎ ((i : ℕ) × (first_from Fs n cs ts ≡ Some (i + n)) × At cs i)

  refuted : (ps : List Shape) → all_fit Fs (shapes ps) ts ≡ false → AllFit Fs (shapes ps) ts → ⊥
  refuted ps e a = absurd (cc (sym e ∙ all_fit_so Fs (shapes ps) ts a))

  unfit : (ps : List Shape) → (AllFit Fs (shapes ps) ts → ⊥) → all_fit Fs (shapes ps) ts ≡ false
  unfit ps h = by_test (all_fit Fs (shapes ps) ts) refl
    where
      by_test : (b : Bool) → all_fit Fs (shapes ps) ts ≡ b → all_fit Fs (shapes ps) ts ≡ false
      by_test true e = absurd (h (all_fit_is Fs (shapes ps) ts e))
      by_test false e = e

  find_first : (n : ℕ) (cs : List (List Shape)) → Found n cs
  find_first n [] = inl (refl, tt)
  find_first n (ps ∷ cs) = by_test (all_fit Fs (shapes ps) ts) refl (find_first (suc n) cs)
    where
      step : (b : Bool) → all_fit Fs (shapes ps) ts ≡ b →
          first_from Fs n (ps ∷ cs) ts ≡ cond b (Some n) (first_from Fs (suc n) cs ts)
      step b e = ap (λ b. cond b (Some n) (first_from Fs (suc n) cs ts)) e

      by_test : (b : Bool) → all_fit Fs (shapes ps) ts ≡ b → Found (suc n) cs → Found n (ps ∷ cs)
      by_test true e r =
          let here : n ≡ 0 + n = omega arith in
          inr (0, step true e ∙ ap Some here, (tt, (ps, refl, all_fit_is Fs (shapes ps) ts e)))
      by_test false e (inl w) = inl (step false e ∙ w.0, (refuted ps e, w.1))
      by_test false e (inr (i, q, w)) =
          let there : i + suc n ≡ suc i + n = omega arith in
          inr (suc i, step false e ∙ q ∙ ap Some there, ((refuted ps e, w.0), w.1))

  none_so : (n : ℕ) (cs : List (List Shape)) → NoneFits Fs cs ts → first_from Fs n cs ts ≡ None
  none_so n [] h = refl
  none_so n (ps ∷ cs) h =
      ap (λ b. cond b (Some n) (first_from Fs (suc n) cs ts)) (unfit ps h.0) ∙ none_so (suc n) cs h.1

  first_so : (n i : ℕ) (cs : List (List Shape)) → At cs i → first_from Fs n cs ts ≡ Some (i + n)
  first_so n i [] (h, (ps, e, a)) = absurd (cc e)
  first_so n zero (x ∷ cs) (h, (ps, e, a)) =
      let here : n ≡ 0 + n = omega arith in
      let fit : AllFit Fs (shapes x) ts =
      subst (λ (y : List Shape). AllFit Fs (shapes y) ts) (sym (some-injective e)) a in
      ap (λ b. cond b (Some n) (first_from Fs (suc n) cs ts)) (all_fit_so Fs (shapes x) ts fit) ∙ ap Some here
  first_so n (suc i) (x ∷ cs) (h, w) =
      let there : i + suc n ≡ suc i + n = omega arith in
      ap (λ b. cond b (Some n) (first_from Fs (suc n) cs ts)) (unfit x h.0) ∙ first_so (suc n) i cs (h.1, w)
      ∙ ap Some there

  pub none_is : (cs : List (List Shape)) → first_match Fs cs ts ≡ None → NoneFits Fs cs ts
  none_is cs e = by_found (find_first 0 cs)
    where
      by_found : Found 0 cs → NoneFits Fs cs ts
      by_found (inl w) = w.1
      by_found (inr (i, q, w)) = absurd (none≢some (sym e ∙ q))

  pub first_is : (cs : List (List Shape)) (i : ℕ) → first_match Fs cs ts ≡ Some i → IsFirstMatch Fs cs ts i
  first_is cs i e = by_found (find_first 0 cs)
    where
      packed : (j : ℕ) → At cs j → IsFirstMatch Fs cs ts j
      packed j (h, (ps, there, a)) = record { patterns = ps; there = there; fit = a; none_before = h }

      by_found : Found 0 cs → IsFirstMatch Fs cs ts i
      by_found (inl w) = absurd (none≢some (sym w.0 ∙ e))
      by_found (inr (j, q, w)) =
          let same : j ≡ i = sym (plus-zero j) ∙ some-injective (sym q ∙ e) in
          subst (λ (k : ℕ). IsFirstMatch Fs cs ts k) same (packed j w)

  pub is_first : (cs : List (List Shape)) (i : ℕ) → IsFirstMatch Fs cs ts i → first_match Fs cs ts ≡ Some i
  is_first cs i m = first_so 0 i cs (m.none_before, (m.patterns, m.there, m.fit)) ∙ ap Some (plus-zero i)

-- of what is the first match
pub some_of : (Fs : List FamilyEntry) (cs : List (List Shape)) (ts : Terms) (o : Option ℕ) →
    o ≡ first_match Fs cs ts → (i : ℕ) → (o ≡ Some i) ↔ IsFirstMatch Fs cs ts i
some_of Fs cs ts o e i = (λ q. first_is Fs ts cs i (sym e ∙ q), λ m. e ∙ is_first Fs ts cs i m)

pub none_of : (Fs : List FamilyEntry) (cs : List (List Shape)) (ts : Terms) (o : Option ℕ) →
    o ≡ first_match Fs cs ts → (o ≡ None) ↔ NoneFits Fs cs ts
none_of Fs cs ts o e = (λ q. none_is Fs ts cs (sym e ∙ q), λ n. e ∙ none_so Fs ts 0 cs n)

pub first_match_is_least : FirstMatchIsLeast
first_match_is_least = record {
  none = λ Fs cs ts. (none_is Fs ts cs, none_so Fs ts 0 cs);
  some = λ Fs cs ts i. (first_is Fs ts cs i, is_first Fs ts cs i);
}
