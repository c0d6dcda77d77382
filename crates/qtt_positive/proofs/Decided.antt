-- The test of strict positivity is its relation, and the first bad field is the first that is not good.
use Rattle.std.proofs.Common.{◌≡◌, ◌↔◌, ℕ, zero, suc, ◌+◌, Bool, true, false, not, ◌&&◌, ◌||◌, cond, List, [], ◌∷◌, take, slice_get, Option, Some, None, refl, sym, ap, ◌∙◌, subst, ◌⊎◌, inl, inr, arith}
use Rattle.qtt_base.specs.declared.place.GlobalId.{GlobalId}
use Rattle.qtt_usage.specs.declared.mult.Mult.{Mult}
use Rattle.qtt_term.specs.Term.{Form, Term, Terms, var, node, ε, ◌▸◌, Fam, same_id}
use Rattle.qtt_term.proofs.Options.{none≢some, some-injective}
use Rattle.qtt_term.proofs.Same.{same_id-is}
use Rattle.qtt_term.specs.Signature.{Tele, Constructor, Family}
use Rattle.qtt_term.specs.Positivity.{Without, AllWithout, Good, GoodFields, GoodConstructors, Positive}
use Rattle.qtt_positive.specs.FirstBad.{occurs, occurs_in, is_good, bad_field, or_later, bad_from, first_bad, IsFirstBad}
use Rattle.qtt_positive.specs.Laws.{FirstBadIsFirst}

neither : (a b : Bool) → (a || b) ≡ false → (a ≡ false) × (b ≡ false)
neither false false e = (refl, refl)
neither true b e = absurd (cc e)
neither false true e = absurd (cc e)

nor : (a b : Bool) → a ≡ false → b ≡ false → (a || b) ≡ false
nor false false e d = refl
nor true b e d = absurd (cc e)
nor false true e d = absurd (cc d)

both : (a b : Bool) → (a && b) ≡ true → (a ≡ true) × (b ≡ true)
both true true e = (refl, refl)
both false b e = absurd (cc e)
both true false e = absurd (cc e)

negated : (a : Bool) → not a ≡ true → a ≡ false
negated false e = refl
negated true e = absurd (cc e)

mutual
  without : (f : GlobalId) (t : Term) → occurs f t ≡ false → Without f t
  without f (var i) e = tt
  without f (node F ts) e = let d = neither _ _ e in (d.0, all_without f ts d.1)

  all_without : (f : GlobalId) (ts : Terms) → occurs_in f ts ≡ false → AllWithout f ts
  all_without f ε e = tt
  all_without f (t ▸ ts) e = let d = neither _ _ e in (without f t d.0, all_without f ts d.1)

mutual
  absent : (f : GlobalId) (t : Term) → Without f t → occurs f t ≡ false
  absent f (var i) w = refl
  absent f (node F ts) w = nor _ _ w.0 (all_absent f ts w.1)

  all_absent : (f : GlobalId) (ts : Terms) → AllWithout f ts → occurs_in f ts ≡ false
  all_absent f ε w = refl
  all_absent f (t ▸ ts) w = nor _ _ (absent f t w.0) (all_absent f ts w.1)

not_so : (a : Bool) → a ≡ false → not a ≡ true
not_so false e = refl
not_so true e = absurd (cc e)

and_so : (a b : Bool) → a ≡ true → b ≡ true → (a && b) ≡ true
and_so true b e d = d
and_so false b e d = absurd (cc e)

of_family : (f g : GlobalId) (ts : Terms) (b : Bool) → same_id f g ≡ b → AllWithout f ts → Good f (Fam g ts)
of_family f g ts true e w = subst (λ h. Good f (Fam h ts)) (same_id-is f g e) (Good.applied w)
of_family f g ts false e w = Good.absent (e, w)

good : (f : GlobalId) (t : Term) → is_good f t ≡ true → Good f t
good f (node (Form.pi q) (A ▸ B ▸ ε)) e = let d = both _ _ e in Good.arrow (without f A (negated _ d.0)) (good f B d.1)
good f (node (Form.fam g) ts) e = of_family f g ts (same_id f g) refl (all_without f ts (negated _ e))
good f t e = Good.absent (without f t (negated _ e))

absent_good : (f : GlobalId) (t : Term) → Without f t → is_good f t ≡ true
absent_good f (node (Form.pi q) (A ▸ B ▸ ε)) w = and_so _ _ (not_so _ (absent f A w.1.0)) (absent_good f B w.1.1.0)
absent_good f (node (Form.fam g) ts) w = not_so _ (all_absent f ts w.1)
absent_good f t w = not_so _ (absent f t w)

is_so : (f : GlobalId) (t : Term) → Good f t → is_good f t ≡ true
is_so f t (Good.absent w) = absent_good f t w
is_so f _ (Good.applied {ts = ts} w) = not_so _ (all_absent f ts w)
is_so f _ (Good.arrow {A = A} {B = B} w g) = and_so _ _ (not_so _ (absent f A w)) (is_so f B g)

not_good : (f : GlobalId) (t : Term) → (Good f t → ⊥) → is_good f t ≡ false
not_good f t n = by_test (is_good f t) refl
  where
    by_test : (b : Bool) → is_good f t ≡ b → is_good f t ≡ false
    by_test true e = absurd (n (good f t e))
    by_test false e = e

test_good : (b : Bool) (k : ℕ) (o : Option ℕ) → cond b o (Some k) ≡ None → (b ≡ true) × (o ≡ None)
test_good true k o e = (refl, e)
test_good false k o e = absurd (cc e)

fields_good : (f : GlobalId) (k : ℕ) (Θ : Tele) → bad_field f k Θ ≡ None → GoodFields f Θ
fields_good f k [] e = tt
fields_good f k (b ∷ Θ) e = let d = test_good _ k _ e in (good f b.1 d.0, fields_good f (suc k) Θ d.1)

good_fields : (f : GlobalId) (k : ℕ) (Θ : Tele) → GoodFields f Θ → bad_field f k Θ ≡ None
good_fields f k [] g = refl
good_fields f k (b ∷ Θ) g = rw (is_so f b.1 g.0) (good_fields f (suc k) Θ g.1)

none_later : (c : ℕ) (o : Option ℕ) (later : Option (ℕ × ℕ)) → or_later c o later ≡ None → (o ≡ None) × (later ≡ None)
none_later c None later e = (refl, e)
none_later c (Some k) later e = absurd (cc e)

constructors_good : (f : GlobalId) (c : ℕ) (ds : List Constructor) → bad_from f c ds ≡ None → GoodConstructors f ds
constructors_good f c [] e = tt
constructors_good f c (d ∷ ds) e =
    let p = none_later c _ _ e in (fields_good f 0 d.fields p.0, constructors_good f (suc c) ds p.1)

good_constructors : (f : GlobalId) (c : ℕ) (ds : List Constructor) → GoodConstructors f ds → bad_from f c ds ≡ None
good_constructors f c [] g = refl
good_constructors f c (d ∷ ds) g = rw (good_fields f 0 d.fields g.0) (good_constructors f (suc c) ds g.1)

pub none_bad : (f : GlobalId) (F : Family) → (first_bad f F ≡ None) ↔ Positive f F
none_bad f F = (constructors_good f 0 F.constructors, good_constructors f 0 F.constructors)

-- ---- the first bad field in words
refuted : (f : GlobalId) (t : Term) → is_good f t ≡ false → Good f t → ⊥
refuted f t e g = absurd (cc (sym e ∙ is_so f t g))

plus-zero : (j : ℕ) → j + 0 ≡ j
plus-zero j = omega arith

-- at this place of a telescope
abbrev FieldAt : GlobalId → Tele → ℕ → Type 0
FieldAt f Θ j = GoodFields f (take j Θ) × ((b : Mult × Term) × (slice_get Θ j ≡ Some b) × (Good f b.1 → ⊥))

abbrev FieldFound : GlobalId → ℕ → Tele → Type 0
FieldFound f k Θ = (bad_field f k Θ ≡ None) ⊎ ((j : ℕ) × (bad_field f k Θ ≡ Some (j + k)) × FieldAt f Θ j)

find_field : (f : GlobalId) (k : ℕ) (Θ : Tele) → FieldFound f k Θ
find_field f k [] = inl refl
find_field f k (b ∷ Θ) = by_test (is_good f b.1) refl (find_field f (suc k) Θ)
  where
    by_test : (t : Bool) → is_good f b.1 ≡ t → FieldFound f (suc k) Θ → FieldFound f k (b ∷ Θ)
    by_test true e (inl n) = inl (ap (λ t. cond t (bad_field f (suc k) Θ) (Some k)) e ∙ n)
    by_test true e (inr (j, q, w)) =
        let there : j + suc k ≡ suc j + k = omega arith in
        inr (suc j, ap (λ t. cond t (bad_field f (suc k) Θ) (Some k)) e ∙ q ∙ ap Some there, ((good f b.1 e, w.0), w.1))
    by_test false e r =
        let here : k ≡ 0 + k = omega arith in
        inr (0, ap (λ t. cond t (bad_field f (suc k) Θ) (Some k)) e ∙ ap Some here, (tt, (b, refl, refuted f b.1 e)))

-- at this constructor and place
abbrev FirstAt : GlobalId → List Constructor → ℕ → ℕ → Type 0
FirstAt f ds i j =
    GoodConstructors f (take i ds) × ((d : Constructor) × (slice_get ds i ≡ Some d) × FieldAt f d.fields j)

abbrev Found : GlobalId → ℕ → List Constructor → Type 0
Found f c ds = (bad_from f c ds ≡ None) ⊎ ((i : ℕ) × (j : ℕ) × (bad_from f c ds ≡ Some (i + c, j)) × FirstAt f ds i j)

find_first : (f : GlobalId) (c : ℕ) (ds : List Constructor) → Found f c ds
find_first f c [] = inl refl
find_first f c (d ∷ ds) = by_fields (find_field f 0 d.fields) (find_first f (suc c) ds)
  where
    by_fields : FieldFound f 0 d.fields → Found f (suc c) ds → Found f c (d ∷ ds)
    by_fields (inl n) (inl m) = inl (ap (λ o. or_later c o (bad_from f (suc c) ds)) n ∙ m)
    by_fields (inl n) (inr (i, j, q, w)) =
        let there : i + suc c ≡ suc i + c = omega arith in
        inr (
          suc i,
          j,
          ap (λ o. or_later c o (bad_from f (suc c) ds)) n ∙ q ∙ ap (λ i. Some (i, j)) there,
          ((fields_good f 0 d.fields n, w.0), w.1),
        )
    by_fields (inr (j, q, w)) r =
        let here : c ≡ 0 + c = omega arith in
        inr (
          0,
          j,
          ap (λ o. or_later c o (bad_from f (suc c) ds)) (q ∙ ap Some (plus-zero j)) ∙ ap (λ i. Some (i, j)) here,
          (tt, (d, refl, w)),
        )

field_is : (f : GlobalId) (k j : ℕ) (Θ : Tele) → FieldAt f Θ j → bad_field f k Θ ≡ Some (j + k)
field_is f k j [] (g, (b, e, n)) = absurd (cc e)
field_is f k zero (b ∷ Θ) (g, (x, e, n)) =
    let here : k ≡ 0 + k = omega arith in
    let bad : is_good f b.1 ≡ false =
    not_good f b.1 (λ h. n (subst (λ (x : Mult × Term). Good f x.1) (some-injective e) h)) in
    ap (λ t. cond t (bad_field f (suc k) Θ) (Some k)) bad ∙ ap Some here
field_is f k (suc j) (b ∷ Θ) (g, w) =
    let there : j + suc k ≡ suc j + k = omega arith in
    ap (λ t. cond t (bad_field f (suc k) Θ) (Some k)) (is_so f b.1 g.0) ∙ field_is f (suc k) j Θ (g.1, w)
    ∙ ap Some there

first_is : (f : GlobalId) (c i j : ℕ) (ds : List Constructor) → FirstAt f ds i j → bad_from f c ds ≡ Some (i + c, j)
first_is f c i j [] (g, (d, e, w)) = absurd (cc e)
first_is f c zero j (d ∷ ds) (g, (x, e, w)) =
    let here : c ≡ 0 + c = omega arith in
    let fields : FieldAt f d.fields j = subst (λ (x : Constructor). FieldAt f x.fields j) (sym (some-injective e)) w in
    ap (λ o. or_later c o (bad_from f (suc c) ds)) (field_is f 0 j d.fields fields ∙ ap Some (plus-zero j))
    ∙ ap (λ i. Some (i, j)) here
first_is f c (suc i) j (d ∷ ds) (g, w) =
    let there : i + suc c ≡ suc i + c = omega arith in
    ap (λ o. or_later c o (bad_from f (suc c) ds)) (good_fields f 0 d.fields g.0) ∙ first_is f (suc c) i j ds (g.1, w)
    ∙ ap (λ i. Some (i, j)) there

pub first_in_words : (f : GlobalId) (F : Family) (c k : ℕ) → first_bad f F ≡ Some (c, k) → IsFirstBad f F c k
first_in_words f F c k e = by_found (find_first f 0 F.constructors)
  where
    packed : (i j : ℕ) → FirstAt f F.constructors i j → IsFirstBad f F i j
    packed i j (g, (d, at, (h, (b, there, n)))) = record {
      earlier_constructors = g;
      constructor = d;
      constructor_there = at;
      earlier_fields = h;
      field = b;
      field_there = there;
      not_good = n;
    }

    by_found : Found f 0 F.constructors → IsFirstBad f F c k
    by_found (inl n) = absurd (none≢some (sym n ∙ e))
    by_found (inr (i, j, q, w)) =
        let both : (i + 0, j) ≡ (c, k) = some-injective (sym q ∙ e) in
        let constructors : i ≡ c = sym (plus-zero i) ∙ ap (λ (p : ℕ × ℕ). p.0) both in
        let fields : j ≡ k = ap (λ (p : ℕ × ℕ). p.1) both in
        subst (λ (i : ℕ). IsFirstBad f F i k) constructors (subst (λ (j : ℕ). IsFirstBad f F i j) fields (packed i j w))

words_are_first : (f : GlobalId) (F : Family) (c k : ℕ) → IsFirstBad f F c k → first_bad f F ≡ Some (c, k)
words_are_first f F c k b =
    first_is f 0 c k F.constructors (
      b.earlier_constructors,
      (
        b.constructor,
        b.constructor_there,
        (
          b.earlier_fields,
          (b.field, b.field_there, b.not_good),
        ),
      ),
    ) ∙ ap (λ c. Some (c, k)) (plus-zero c)

pub first_bad_is_first : FirstBadIsFirst
first_bad_is_first = record {
  none = none_bad;
  some = λ f F c k. (first_in_words f F c k, words_are_first f F c k);
}
