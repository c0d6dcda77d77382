-- The first way back, and the first ring.
use Rattle.std.proofs.Common.{◌≡◌, ℕ, zero, suc, ◌+◌, ◌-◌, ◌≤◌, ◌<◌, Bool, true, false, cond, List, [], ◌∷◌, ◌++◌, length, take, slice_index_or, Option, Some, None, refl, sym, ap, ◌∙◌, subst, ◌⊎◌, inl, inr, arith}
use Rattle.std.specs.Prelude.{find}
use Rattle.std.specs.Option.{option_or}
use Rattle.std.proofs.lemmas.Bool.{cases_eq}
use Rattle.qtt_graph.specs.Graph.{Name, Graph, names}
use Rattle.qtt_graph.specs.Ring.{first_of, ways, way_back, first_ring}
use Rattle.qtt_graph.specs.Modules.{name_at}
use Rattle.qtt_graph.specs.Near.{HasWay, Near, Stepped, IsAt, IsFirstWay}
use Rattle.qtt_graph.proofs.Among.{none≢some, some-injective, Once}
use Rattle.qtt_graph.proofs.Nearer.{first-way, Known, NoneShorter, none-goes-on, GoesOn, one-goes-on}

-- ---- the first way back
no-way-back : (g : Graph) (a : Name) (k n : ℕ) → ((j : ℕ) → j < k + n → HasWay g j a a → ⊥) → way_back g k n a ≡ None
no-way-back g a k zero none = refl
no-way-back g a k (suc n) none = by_first (first_of (ways g k a a)) refl (no-way-back g a (suc k) n (λ j l. none j
    (omega (arith, l))))
  where
    by_first : (o : Option (List Name)) → first_of (ways g k a a) ≡ o → way_back g (suc k) n a ≡ None →
        way_back g k (suc n) a ≡ None
    by_first None e later = ap (λ o. option_or o (way_back g (suc k) n a)) e ∙ later
    by_first (Some w) e later = absurd (none k (omega arith) (first-way _ (w, e)))

way-back-at : (g : Graph) (a : Name) (m : ℕ) (w : List Name) (k n : ℕ) → k ≤ m → m < k + n →
    ((j : ℕ) → j < m → HasWay g j a a → ⊥) → first_of (ways g m a a) ≡ Some w → way_back g k n a ≡ Some w
way-back-at g a m w k zero low high none e = absurd (omega (arith, low, high))
way-back-at g a m w k (suc n) low high none e =
    by_order (λ l h. way-back-at g a m w (suc k) n l h none e) (cases_eq k m)
  where
    by_first : (o : Option (List Name)) → first_of (ways g k a a) ≡ o → (k ≡ m → ⊥) → way_back g (suc k) n a ≡ Some w →
        way_back g k (suc n) a ≡ Some w
    by_first None d other later = ap (λ o. option_or o (way_back g (suc k) n a)) d ∙ later
    by_first (Some v) d other later = absurd (none k (omega (arith, low, other)) (first-way _ (v, d)))

    by_order : (suc k ≤ m → m < suc k + n → way_back g (suc k) n a ≡ Some w) → (k ≡ m) ⊎ (k ≡ m → ⊥) →
        way_back g k (suc n) a ≡ Some w
    by_order further (inl same) =
        ap (λ o. option_or o (way_back g (suc k) n a))
        (subst (λ j. first_of (ways g j a a) ≡ Some w) (sym same) e)
    by_order further (inr other) =
        by_first (first_of (ways g k a a)) refl other (further (omega (arith, low, other)) (omega (arith, high)))

-- what is told of the module itself
pub back-none : (g : Graph) (t : ℕ) (near : List (Option ℕ)) (o : Option ℕ) → t < length g →
    Near g (name_at g t) (length g) near → slice_index_or near t o ≡ None → way_back g 0 (length g) (name_at g t) ≡ None
back-none g t near o l h e =
    no-way-back g (name_at g t) 0 (length g)
    (λ j s w. none≢some (sym e ∙ (h.least t j o l (omega (arith, s)) w).2))

pub back-some : (g : Graph) (t k : ℕ) (near : List (Option ℕ)) (o : Option ℕ) (w : List Name) → t < length g →
    Near g (name_at g t) (length g) near → slice_index_or near t o ≡ Some k →
    first_of (ways g k (name_at g t) (name_at g t)) ≡ Some w → way_back g 0 (length g) (name_at g t) ≡ Some w
back-some g t k near o w l h e f =
    let there = h.there t k o l e in
    way-back-at g (name_at g t) k w 0 (length g) (omega arith) (omega (arith, there.1))
    (λ j s v.
    let r = h.least t j o l (omega (arith, s, there.1)) v in
    let same = some-injective (sym e ∙ r.2) in
    absurd (omega (arith, r.1, same, s)))
    f

pub first-ring-at : (g : Graph) (ns : List Name) (i : ℕ) (w : List Name) → i < length ns →
    first_ring g (take i ns) ≡ None → way_back g 0 (length g) (slice_index_or ns i []) ≡ Some w →
    first_ring g ns ≡ Some w
first-ring-at g [] i w l none e = absurd (omega (arith, l))
first-ring-at g (n ∷ ns) zero w l none e = ap (λ o. option_or o (first_ring g ns)) e
first-ring-at g (n ∷ ns) (suc i) w l none e =
    by_back (way_back g 0 (length g) n) refl (λ r. first-ring-at g ns i w (omega (arith, l)) r e)
  where
    by_back : (o : Option (List Name)) → way_back g 0 (length g) n ≡ o →
        (first_ring g (take i ns) ≡ None → first_ring g ns ≡ Some w) → first_ring g (n ∷ ns) ≡ Some w
    by_back None d later =
        ap (λ o. option_or o (first_ring g ns)) d ∙
        later (sym (ap (λ o. option_or o (first_ring g (take i ns))) d) ∙ none)
    by_back (Some v) d later =
        absurd (none≢some (sym none ∙ ap (λ o. option_or o (first_ring g (take i ns))) d))

pub no-ring-step : (g : Graph) (ns : List Name) (i : ℕ) → i < length ns → first_ring g (take i ns) ≡ None →
    way_back g 0 (length g) (slice_index_or ns i []) ≡ None → first_ring g (take (i + 1) ns) ≡ None
no-ring-step g ns i l none e =
    let there : suc i ≡ i + 1 = omega arith in
    subst (λ k. first_ring g (take k ns) ≡ None) there (deeper ns i l none e)
  where
    deeper : (ns : List Name) (i : ℕ) → i < length ns → first_ring g (take i ns) ≡ None →
        way_back g 0 (length g) (slice_index_or ns i []) ≡ None → first_ring g (take (suc i) ns) ≡ None
    deeper [] i l none e = refl
    deeper (n ∷ ns) zero l none e = ap (λ o. option_or o None) e
    deeper (n ∷ ns) (suc i) l none e =
        by_back (way_back g 0 (length g) n) refl (λ r. deeper ns i (omega (arith, l)) r e)
      where
        by_back : (o : Option (List Name)) → way_back g 0 (length g) n ≡ o →
            (first_ring g (take i ns) ≡ None → first_ring g (take (suc i) ns) ≡ None) →
            first_ring g (n ∷ take (suc i) ns) ≡ None
        by_back None d later =
            ap (λ o. option_or o (first_ring g (take (suc i) ns))) d ∙
            later (sym (ap (λ o. option_or o (first_ring g (take i ns))) d) ∙ none)
        by_back (Some v) d later =
            absurd (none≢some (sym none ∙ ap (λ o. option_or o (first_ring g (take i ns))) d))

-- ---- a list that is searched
pub find-step : (test : ℕ → Bool) (row : List ℕ) (i : ℕ) → i < length row → find test (take i row) ≡ None →
    test (slice_index_or row i 0) ≡ false → find test (take (i + 1) row) ≡ None
find-step test row i l none e =
    let there : suc i ≡ i + 1 = omega arith in
    subst (λ k. find test (take k row) ≡ None) there (deeper row i l none e)
  where
    deeper : (row : List ℕ) (i : ℕ) → i < length row → find test (take i row) ≡ None →
        test (slice_index_or row i 0) ≡ false → find test (take (suc i) row) ≡ None
    deeper [] i l none e = refl
    deeper (p ∷ row) zero l none e = ap (λ t. cond t (Some p) None) e
    deeper (p ∷ row) (suc i) l none e = by_test (test p) refl (λ r. deeper row i (omega (arith, l)) r e)
      where
        by_test : (t : Bool) → test p ≡ t → (find test (take i row) ≡ None → find test (take (suc i) row) ≡ None) →
            find test (p ∷ take (suc i) row) ≡ None
        by_test false d later =
            ap (λ t. cond t (Some p) (find test (take (suc i) row))) d ∙
            later (sym (ap (λ t. cond t (Some p) (find test (take i row))) d) ∙ none)
        by_test true d later = absurd (none≢some (sym none ∙ ap (λ t. cond t (Some p) (find test (take i row))) d))

pub find-here : (test : ℕ → Bool) (row : List ℕ) (i : ℕ) → i < length row → find test (take i row) ≡ None →
    test (slice_index_or row i 0) ≡ true → find test row ≡ Some (slice_index_or row i 0)
find-here test [] i l none e = absurd (omega (arith, l))
find-here test (p ∷ row) zero l none e = ap (λ t. cond t (Some p) (find test row)) e
find-here test (p ∷ row) (suc i) l none e = by_test (test p) refl (λ r. find-here test row i (omega (arith, l)) r e)
  where
    by_test : (t : Bool) → test p ≡ t →
        (find test (take i row) ≡ None → find test row ≡ Some (slice_index_or row i 0)) →
        find test (p ∷ row) ≡ Some (slice_index_or row i 0)
    by_test false d later =
        ap (λ t. cond t (Some p) (find test row)) d ∙
        later (sym (ap (λ t. cond t (Some p) (find test (take i row))) d) ∙ none)
    by_test true d later = absurd (none≢some (sym none ∙ ap (λ t. cond t (Some p) (find test (take i row))) d))

-- ---- along the first way
-- the modules on a way so far, and that it goes on from the one at place p with `left` imports beyond the next
pub record Going (g : Graph) (near : List (Option ℕ)) (t count : ℕ) (way : List Name) (p left : ℕ) : Type 0 where
  pub within : p < length g
  pub at : IsAt near p left
  pub on : (w : List Name) → IsFirstWay g left p t w → IsFirstWay g count t t (way ++ w)

known-so-far : (g : Graph) (b : Name) (n : ℕ) (near : List (Option ℕ)) → n < length g → Near g b (length g) near →
    Known g b n near
known-so-far g b n near l h = record {
  there = λ i k o m e. (h.there i k o m e).0;
  least = λ i k o m s w. h.least i k o m (omega (arith, s, l)) w;
}

none-nearer : (g : Graph) (b : Name) (n p : ℕ) (near : List (Option ℕ)) → n < length g → Near g b (length g) near →
    p < length g → IsAt near p n → NoneShorter g b n (name_at g p)
none-nearer g b n p near l h m e j s w =
    let r = h.least p j None m (omega (arith, s, l)) w in
    let same = some-injective (sym e ∙ r.2) in
    omega (arith, r.1, same, s)

append-more : (xs : List Name) (y : Name) (zs : List Name) → (xs ++ y ∷ []) ++ zs ≡ xs ++ y ∷ zs
append-more [] y zs = refl
append-more (x ∷ xs) y zs = ap (λ ys. x ∷ ys) (append-more xs y zs)

pub going-stops : (g : Graph) (near : List (Option ℕ)) (t count : ℕ) (way : List Name) (p left : ℕ) → Once (names g) →
    t < length g → Near g (name_at g t) (length g) near → Going g near t count way p left →
    Stepped g near t left p None → ⊥
going-stops g near t count way p left o l h so (row, places, is) =
    let there = h.there p left None so.within so.at in
    none-goes-on g t left near (name_at g p) row o l (known-so-far g (name_at g t) left near there.1 h)
    (none-nearer g (name_at g t) left p near there.1 h so.within so.at) places (sym is) there.0

going : (g : Graph) (near : List (Option ℕ)) (t count : ℕ) (way : List Name) (p left d : ℕ) → Once (names g) →
    t < length g → Near g (name_at g t) (length g) near → Going g near t count way p left →
    Stepped g near t left p (Some d) → GoesOn g t left near (name_at g p) d
going g near t count way p left d o l h so (row, places, is) =
    let there = h.there p left None so.within so.at in
    one-goes-on g t left near (name_at g p) row d o l (known-so-far g (name_at g t) left near there.1 h)
    (none-nearer g (name_at g t) left p near there.1 h so.within so.at) places (sym is)

pub going-ends : (g : Graph) (near : List (Option ℕ)) (t count : ℕ) (way : List Name) (p left d : ℕ) → Once (names g) →
    t < length g → Near g (name_at g t) (length g) near → Going g near t count way p left →
    Stepped g near t left p (Some d) → left ≡ 0 → IsFirstWay g count t t (way ++ name_at g p ∷ [])
going-ends g near t count way p left d o l h so step z =
    so.on (name_at g p ∷ []) ((going g near t count way p left d o l h so step).last z)

pub going-on : (g : Graph) (near : List (Option ℕ)) (t count : ℕ) (way : List Name) (p left d : ℕ) → Once (names g) →
    t < length g → Near g (name_at g t) (length g) near → Going g near t count way p left →
    Stepped g near t left p (Some d) → (left ≡ 0 → ⊥) → Going g near t count (way ++ name_at g p ∷ []) d (left - 1)
going-on g near t count way p left d o l h so step more =
    let one = going g near t count way p left d o l h so step in
    let less : left ≡ suc (left - 1) = omega (arith, more) in
    record {
      within = one.within;
      at = one.next (left - 1) less;
      on = λ w f.
          subst (λ ws. IsFirstWay g count t t ws) (sym (append-more way (name_at g p) w))
          (so.on (name_at g p ∷ w) (one.rest (left - 1) w less f));
    }
