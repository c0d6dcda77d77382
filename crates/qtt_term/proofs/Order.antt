-- Lists in the order of ids: what a search finds there, and what a new element changes.
use Rattle.std.proofs.Common.{◌≡◌, ℕ, zero, suc, ◌<◌, ◌≤◌, List, [], ◌∷◌, length, get_or, slice_get, map, Option, Some, None, option_map, is_none, not, Bool, true, false, ◌&&◌, cond, nat_lt, ◌⊎◌, inl, inr, refl, sym, ap, ◌∙◌, subst, arith, Ordering, Result, Ok, Err, IfOk, IfErr}
use Rattle.std.specs.List.{list_all, insert, filter, HoldsAt}
use Rattle.std.specs.List.Sorted.{IsSearchInRange, IsBinarySearchResult, IsNonDecreasingBy, IsPartitionPoint}
use Rattle.std.specs.Ordering.{ordering_index, MatchOrdering}
use Rattle.std.specs.declared.cmp.Ordering.TheVariants.{Less, Equal, Greater}
use Rattle.std.proofs.lemmas.Bool.{and_parts, and_from, ltb-true, ltb-false}
use Rattle.std.proofs.lemmas.Bool.Decides.{nat_tests}
use Rattle.std.proofs.lemmas.List.Sums.{list_all-from_AllPass}
use Rattle.std.proofs.lemmas.Option.{slice_get-get_or}
use Rattle.std.proofs.lemmas.List.{length-map}
use Rattle.std.proofs.Math.ListN.{get_or-map, set}
use mathlib.Core.Bool.{true≢false}
use mathlib.Core.Path.{fun_ext}
use Rattle.qtt_base.specs.declared.place.GlobalId.{GlobalId}
use Rattle.qtt_term.specs.Term.{same_id}
use Rattle.qtt_term.specs.Keyed.{id_before, ascends, with_id, inserted, all_inserted, ids_differ, CanInsertAll, IsPlaceOf, IsGapFor}
use Rattle.qtt_term.specs.Question.{either}
use Rattle.qtt_term.proofs.Same.{same_id-is, id-same}

-- ---- the order of ids
pub before-trans : (a b c : GlobalId) → id_before a b ≡ true → id_before b c ≡ true → id_before a c ≡ true
before-trans a b c e f = grind (arith, nat_tests)

pub before-differs : (a b : GlobalId) → id_before a b ≡ true → same_id a b ≡ false
before-differs a b e = grind (arith, nat_tests)

pub after-differs : (a b : GlobalId) → id_before a b ≡ true → same_id b a ≡ false
after-differs a b e = grind (arith, nat_tests)

pub before-asym : (a b : GlobalId) → id_before a b ≡ true → id_before b a ≡ false
before-asym a b e = grind (arith, nat_tests)

pub before-total : (a b : GlobalId) → id_before a b ≡ false → same_id b a ≡ false → id_before b a ≡ true
before-total a b e f = grind (arith, nat_tests)

not_before_itself : (a : GlobalId) → id_before a a ≡ true → ⊥
not_before_itself a e = true≢false (sym e ∙ before-asym a a e)

-- an order that answers by the ids
abbrev pub IsIdOrder : (GlobalId → GlobalId → Ordering) → Type 0
IsIdOrder cmp = (a b : GlobalId) → MatchOrdering (cmp a b) (id_before a b ≡ true) (a ≡ b) (id_before b a ≡ true)

order_cases : (o : Ordering) (P Q R : Type 0) → MatchOrdering o P Q R →
    (P × (o ≡ Less)) ⊎ ((Q × (o ≡ Equal)) ⊎ (R × (o ≡ Greater)))
order_cases Less P Q R h = inl (h, refl)
order_cases Equal P Q R h = inr (inl (h, refl))
order_cases Greater P Q R h = inr (inr (h, refl))

order_rises : (o r : Ordering) → (r ≡ Less → o ≡ Less) → (r ≡ Equal → o ≡ Less) → ordering_index o ≤ ordering_index r
order_rises Less r l e = omega arith
order_rises Equal Less l e = absurd (cc (l refl))
order_rises Equal Equal l e = omega arith
order_rises Equal Greater l e = omega arith
order_rises Greater Less l e = absurd (cc (l refl))
order_rises Greater Equal l e = absurd (cc (e refl))
order_rises Greater Greater l e = omega arith

-- ---- ascending lists
all-at : {X : Type 0} (p : X → Bool) (xs : List X) (i : ℕ) (d : X) → list_all p xs ≡ true → i < length xs →
    p (get_or xs i d) ≡ true
all-at p [] i d h lt = absurd (omega arith)
all-at p (x ∷ xs) zero d h lt = (and_parts (p x) (list_all p xs) h).0
all-at p (x ∷ xs) (suc i) d h lt = all-at p xs i d (and_parts (p x) (list_all p xs) h).1 (omega arith)

pub ascends-at : {X : Type 0} (key : X → GlobalId) (xs : List X) (i j : ℕ) (d : X) → ascends key xs ≡ true →
    i < j → j < length xs →
    id_before (key (get_or xs i d)) (key (get_or xs j d)) ≡ true
ascends-at key [] i j d h lt in_range = absurd (omega arith)
ascends-at key (x ∷ xs) i zero d h lt in_range = absurd (omega arith)
ascends-at key (x ∷ xs) zero (suc j) d h lt in_range =
    all-at (λ y. id_before (key x) (key y)) xs j d
    (and_parts (list_all (λ y. id_before (key x) (key y)) xs) (ascends key xs) h).0 (omega arith)
ascends-at key (x ∷ xs) (suc i) (suc j) d h lt in_range =
    ascends-at key xs i j d (and_parts (list_all (λ y. id_before (key x) (key y)) xs) (ascends key xs) h).1
    (omega arith) (omega arith)

-- the first element of an id
pub found_first : {X : Type 0} (key : X → GlobalId) (id : GlobalId) (x : X) (xs : List X) → key x ≡ id →
    with_id key id (x ∷ xs) ≡ Some x
found_first key id x xs e = ap (λ b. cond b (Some x) (with_id key id xs)) (ap (λ a. same_id a id) e ∙ id-same id)

pub found_behind : {X : Type 0} (key : X → GlobalId) (id : GlobalId) (x : X) (xs : List X) →
    same_id (key x) id ≡ false → with_id key id (x ∷ xs) ≡ with_id key id xs
found_behind key id x xs e = ap (λ b. cond b (Some x) (with_id key id xs)) e

found_at : {X : Type 0} (key : X → GlobalId) (xs : List X) (id : GlobalId) (i : ℕ) → ascends key xs ≡ true →
    i < length xs →
    ((d : X) → key (get_or xs i d) ≡ id) → with_id key id xs ≡ slice_get xs i
found_at key [] id i up lt here = absurd (omega arith)
found_at key (x ∷ xs) id zero up lt here = found_first key id x xs (here x)
found_at key (x ∷ xs) id (suc i) up lt here =
    let first : id_before (key x) id ≡ true =
    subst (λ b. id_before (key x) b ≡ true) (here x) (ascends-at key (x ∷ xs) 0 (suc i) x up (omega arith) lt)
    in
    found_behind key id x xs (before-differs (key x) id first)
    ∙ found_at key xs id i (and_parts (list_all (λ y. id_before (key x) (key y)) xs) (ascends key xs) up).1
    (omega arith) here

gap_absent : {X : Type 0} (key : X → GlobalId) (xs : List X) (id : GlobalId) →
    ((k : ℕ) (d : X) → k < length xs → same_id (key (get_or xs k d)) id ≡ false) → with_id key id xs ≡ None
gap_absent key [] id h = refl
gap_absent key (x ∷ xs) id h =
    found_behind key id x xs (h 0 x (omega arith)) ∙ gap_absent key xs id (λ k d lt. h (suc k) d (omega arith))

pub inserted_here : {X : Type 0} (key : X → GlobalId) (x y : X) (ys : List X) → id_before (key x) (key y) ≡ true →
    inserted key x (y ∷ ys) ≡ x ∷ y ∷ ys
inserted_here key x y ys e = ap (λ b. cond b (x ∷ y ∷ ys) (y ∷ inserted key x ys)) e

pub inserted_behind : {X : Type 0} (key : X → GlobalId) (x y : X) (ys : List X) →
    id_before (key x) (key y) ≡ false → inserted key x (y ∷ ys) ≡ y ∷ inserted key x ys
inserted_behind key x y ys e = ap (λ b. cond b (x ∷ y ∷ ys) (y ∷ inserted key x ys)) e

gap_inserted : {X : Type 0} (key : X → GlobalId) (xs : List X) (x : X) (i : ℕ) → i ≤ length xs →
    ((k : ℕ) (d : X) → k < i → id_before (key (get_or xs k d)) (key x) ≡ true) →
    ((k : ℕ) (d : X) → i ≤ k → k < length xs → id_before (key x) (key (get_or xs k d)) ≡ true) →
    insert xs i x ≡ inserted key x xs
gap_inserted key [] x zero le front back = refl
gap_inserted key [] x (suc i) le front back = absurd (omega arith)
gap_inserted key (y ∷ ys) x zero le front back = sym (inserted_here key x y ys (back 0 y (omega arith) (omega arith)))
gap_inserted key (y ∷ ys) x (suc i) le front back =
    ap (λ zs. y ∷ zs) (gap_inserted key ys x i (omega arith) (λ k d lt. front (suc k) d (omega arith))
    (λ k d ge lt. back (suc k) d (omega arith) (omega arith)))
    ∙ sym (inserted_behind key x y ys (before-asym (key y) (key x) (front 0 y (omega arith))))

-- what a binary search finds
module _ {X : Type 0} (cmp : GlobalId → GlobalId → Ordering) (order : IsIdOrder cmp) (key : X → GlobalId)
    (id : GlobalId) (xs : List X) (up : ascends key xs ≡ true) where
  less : (a : GlobalId) → cmp a id ≡ Less → id_before a id ≡ true
  less a e = subst (λ o. MatchOrdering o (id_before a id ≡ true) (a ≡ id) (id_before id a ≡ true)) e (order a id)

  equal : (a : GlobalId) → cmp a id ≡ Equal → a ≡ id
  equal a e = subst (λ o. MatchOrdering o (id_before a id ≡ true) (a ≡ id) (id_before id a ≡ true)) e (order a id)

  greater : (a : GlobalId) → cmp a id ≡ Greater → id_before id a ≡ true
  greater a e = subst (λ o. MatchOrdering o (id_before a id ≡ true) (a ≡ id) (id_before id a ≡ true)) e (order a id)

  is_less : (a : GlobalId) → id_before a id ≡ true → cmp a id ≡ Less
  is_less a e = elim (order_cases (cmp a id) (id_before a id ≡ true) (a ≡ id) (id_before id a ≡ true) (order a id)) [
    | inl p ↦ p.1
    | inr q ↦ elim q [
      | inl p ↦ absurd (not_before_itself id (subst (λ b. id_before b id ≡ true) p.0 e))
      | inr p ↦ absurd (true≢false (sym p.0 ∙ before-asym a id e))
    ]
  ]

  rises : (i j : ℕ) (d : X) → i ≤ j → j < length xs →
      ordering_index (cmp (key (get_or xs i d)) id) ≤ ordering_index (cmp (key (get_or xs j d)) id)
  rises i j d le lt = by_place (nat_lt i j) refl
    where
      by_place : (b : Bool) → nat_lt i j ≡ b →
          ordering_index (cmp (key (get_or xs i d)) id) ≤ ordering_index (cmp (key (get_or xs j d)) id)
      by_place true t =
          let a = key (get_or xs i d) in
          let b = key (get_or xs j d) in
          let before = ascends-at key xs i j d up (ltb-true i j t) lt in
          order_rises (cmp a id) (cmp b id) (λ l. is_less a (before-trans a b id before (less b l)))
          (λ e. is_less a (subst (λ c. id_before a c ≡ true) (equal b e) before))
      by_place false t =
          let same : i ≡ j = omega (arith, ltb-false i j t) in
          subst (λ k. ordering_index (cmp (key (get_or xs i d)) id) ≤ ordering_index
          (cmp (key (get_or xs k d)) id)) same (omega arith)

  pub searched_found : (i : ℕ) → i < length xs → HoldsAt (λ y. cmp (key y) id ≡ Equal) xs i → IsPlaceOf key id xs i
  searched_found i lt h = record
      { in_range = lt; there = found_at key xs id i up lt (λ d. equal (key (get_or xs i d)) (h d)) }

  pub searched_absent : (i : ℕ) → i ≤ length xs →
      (IsNonDecreasingBy (λ y. ordering_index (cmp (key y) id)) xs →
      IsPartitionPoint (λ y. cmp (key y) id ≡ Less) (λ y. cmp (key y) id ≡ Greater) xs i) →
      IsGapFor key id xs i
  searched_absent i le h =
      let parted = h rises in
      let front : (k : ℕ) (d : X) → k < i → id_before (key (get_or xs k d)) id ≡ true =
      λ k d lt. less (key (get_or xs k d)) (parted.0 k d (omega arith) lt) in
      let back : (k : ℕ) (d : X) → i ≤ k → k < length xs → id_before id (key (get_or xs k d)) ≡ true =
      λ k d ge lt. greater (key (get_or xs k d)) (parted.1 k d ge lt) in
      record {
        in_range = le;
        absent = gap_absent key xs id (λ k d lt. differs k d lt (front k d) (back k d));
        next = λ x e.
            gap_inserted key xs x i le
            (λ k d lt. subst (λ b. id_before (key (get_or xs k d)) b ≡ true) (sym e) (front k d lt))
            (λ k d ge lt. subst (λ b. id_before b (key (get_or xs k d)) ≡ true) (sym e) (back k d ge lt));
      }
    where
      differs : (k : ℕ) (d : X) → k < length xs → (k < i → id_before (key (get_or xs k d)) id ≡ true) →
          (i ≤ k → k < length xs → id_before id (key (get_or xs k d)) ≡ true) →
          same_id (key (get_or xs k d)) id ≡ false
      differs k d lt front back = by_place (nat_lt k i) refl
        where
          by_place : (b : Bool) → nat_lt k i ≡ b → same_id (key (get_or xs k d)) id ≡ false
          by_place true t = before-differs (key (get_or xs k d)) id (front (ltb-true k i t))
          by_place false t = after-differs id (key (get_or xs k d)) (back (ltb-false k i t) lt)

  pub searched : (r : Result ℕ ℕ) → IsSearchInRange r (length xs) → IsBinarySearchResult (λ y. cmp (key y) id) xs r →
      (IfOk r (IsPlaceOf key id xs)) × (IfErr r (IsGapFor key id xs))
  searched (Ok i) in_range h = (searched_found i in_range h, tt)
  searched (Err i) in_range h = (tt, searched_absent i in_range h)

-- ---- one more element
pub all-inserted : {X : Type 0} (key : X → GlobalId) (p : X → Bool) (x : X) (xs : List X) → p x ≡ true →
    list_all p xs ≡ true → list_all p (inserted key x xs) ≡ true
all-inserted key p x [] here h = and_from (p x) true here refl
all-inserted key p x (y ∷ ys) here h =
    by_order (id_before (key x) (key y)) refl (all-inserted key p x ys here (and_parts (p y) (list_all p ys) h).1)
  where
    by_order : (b : Bool) → id_before (key x) (key y) ≡ b → list_all p (inserted key x ys) ≡ true →
        list_all p (inserted key x (y ∷ ys)) ≡ true
    by_order true e rest = ap (list_all p) (inserted_here key x y ys e) ∙ and_from (p x) (list_all p (y ∷ ys)) here h
    by_order false e rest = ap (list_all p) (inserted_behind key x y ys e) ∙ and_from (p y)
        (list_all p (inserted key x ys)) (and_parts (p y) (list_all p ys) h).0 rest

all_before : {X : Type 0} (key : X → GlobalId) (a b : GlobalId) (xs : List X) → id_before a b ≡ true →
    list_all (λ y. id_before b (key y)) xs ≡ true → list_all (λ y. id_before a (key y)) xs ≡ true
all_before key a b [] e h = refl
all_before key a b (x ∷ xs) e h =
    let parts = and_parts (id_before b (key x)) (list_all (λ y. id_before b (key y)) xs) h in
    and_from (id_before a (key x)) (list_all (λ y. id_before a (key y)) xs) (before-trans a b (key x) e parts.0)
    (all_before key a b xs e parts.1)

-- an id that is not there is not that of the first element, and not behind it
pub absent_first : {X : Type 0} (key : X → GlobalId) (id : GlobalId) (x : X) (xs : List X) →
    with_id key id (x ∷ xs) ≡ None → (same_id (key x) id ≡ false) × (with_id key id xs ≡ None)
absent_first key id x xs e = by_test (same_id (key x) id) refl
  where
    by_test : (b : Bool) → same_id (key x) id ≡ b → (same_id (key x) id ≡ false) × (with_id key id xs ≡ None)
    by_test true t = absurd (cc (sym (ap (λ b. cond b (Some x) (with_id key id xs)) t) ∙ e))
    by_test false t = (t, sym (found_behind key id x xs t) ∙ e)

pub ascends-inserted : {X : Type 0} (key : X → GlobalId) (x : X) (xs : List X) → ascends key xs ≡ true →
    with_id key (key x) xs ≡ None → ascends key (inserted key x xs) ≡ true
ascends-inserted key x [] up new_id = refl
ascends-inserted key x (y ∷ ys) up new_id =
    by_order (id_before (key x) (key y)) refl
    (ascends-inserted key x ys
    (and_parts (list_all (λ z. id_before (key y) (key z)) ys) (ascends key ys) up).1
    (absent_first key (key x) y ys new_id).1)
  where
    by_order : (b : Bool) → id_before (key x) (key y) ≡ b → ascends key (inserted key x ys) ≡ true →
        ascends key (inserted key x (y ∷ ys)) ≡ true
    by_order true e rest =
        let parts = and_parts (list_all (λ z. id_before (key y) (key z)) ys) (ascends key ys) up in
        ap (ascends key) (inserted_here key x y ys e)
        ∙ and_from (list_all (λ z. id_before (key x) (key z)) (y ∷ ys)) (ascends key (y ∷ ys))
        (and_from (id_before (key x) (key y)) (list_all (λ z. id_before (key x) (key z)) ys) e
        (all_before key (key x) (key y) ys e parts.0)) up
    by_order false e rest =
        let parts = and_parts (list_all (λ z. id_before (key y) (key z)) ys) (ascends key ys) up in
        let first = before-total (key x) (key y) e (absent_first key (key x) y ys new_id).0 in
        ap (ascends key) (inserted_behind key x y ys e)
        ∙ and_from (list_all (λ z. id_before (key y) (key z)) (inserted key x ys)) (ascends key (inserted key x ys))
        (all-inserted key (λ z. id_before (key y) (key z)) x ys first parts.0) rest

pub with_id-inserted : {X : Type 0} (key : X → GlobalId) (x : X) (xs : List X) (id : GlobalId) →
    with_id key (key x) xs ≡ None →
    with_id key id (inserted key x xs) ≡ cond (same_id (key x) id) (Some x) (with_id key id xs)
with_id-inserted key x [] id new_id = refl
with_id-inserted {X = X} key x (y ∷ ys) id new_id =
    by_order (id_before (key x) (key y)) refl
    (with_id-inserted key x ys id (absent_first key (key x) y ys new_id).1)
  where
    swapped : (b c : Bool) → (b ≡ true → c ≡ true → ⊥) →
        (o : Option X) → cond b (Some y) (cond c (Some x) o) ≡ cond c (Some x) (cond b (Some y) o)
    swapped true true never o = absurd (never refl refl)
    swapped true false never o = refl
    swapped false true never o = refl
    swapped false false never o = refl

    apart : same_id (key y) id ≡ true → same_id (key x) id ≡ true → ⊥
    apart e f =
        let same : key y ≡ key x = same_id-is (key y) id e ∙ sym (same_id-is (key x) id f) in
        true≢false (sym (ap (λ a. same_id a (key x)) same ∙ id-same (key x)) ∙ (absent_first key (key x) y ys new_id).0)

    by_order : (b : Bool) → id_before (key x) (key y) ≡ b →
        with_id key id (inserted key x ys) ≡ cond (same_id (key x) id) (Some x) (with_id key id ys) →
        with_id key id (inserted key x (y ∷ ys)) ≡ cond (same_id (key x) id) (Some x) (with_id key id (y ∷ ys))
    by_order true e rest = ap (with_id key id) (inserted_here key x y ys e)
    by_order false e rest =
        ap (with_id key id) (inserted_behind key x y ys e) ∙ ap (λ o. cond (same_id (key y) id) (Some y) o) rest
        ∙ swapped (same_id (key y) id) (same_id (key x) id) apart (with_id key id ys)

-- ---- lists of what stands for other things
all-map : {X Y : Type 0} (f : X → Y) (p : Y → Bool) (xs : List X) → list_all p (map f xs) ≡ list_all (λ x. p (f x)) xs
all-map f p [] = refl
all-map f p (x ∷ xs) = ap (λ b. p (f x) && b) (all-map f p xs)

pub ascends-map : {X Y : Type 0} (f : X → Y) (key : Y → GlobalId) (xs : List X) →
    ascends key (map f xs) ≡ ascends (λ x. key (f x)) xs
ascends-map f key [] = refl
ascends-map f key (x ∷ xs) =
    ap (λ b. b && ascends key (map f xs)) (all-map f (λ y. id_before (key (f x)) (key y)) xs)
    ∙ ap (λ b. list_all (λ y. id_before (key (f x)) (key (f y))) xs && b) (ascends-map f key xs)

map-cond : {X Y : Type 0} (f : X → Y) (b : Bool) (x : X) (o : Option X) →
    cond b (Some (f x)) (option_map f o) ≡ option_map f (cond b (Some x) o)
map-cond f true x o = refl
map-cond f false x o = refl

pub with_id-map : {X Y : Type 0} (f : X → Y) (key : Y → GlobalId) (id : GlobalId) (xs : List X) →
    with_id key id (map f xs) ≡ option_map f (with_id (λ x. key (f x)) id xs)
with_id-map f key id [] = refl
with_id-map f key id (x ∷ xs) =
    ap (λ o. cond (same_id (key (f x)) id) (Some (f x)) o) (with_id-map f key id xs) ∙
    map-cond f (same_id (key (f x)) id) x (with_id (λ y. key (f y)) id xs)

pub inserted-map : {X Y : Type 0} (f : X → Y) (key : Y → GlobalId) (x : X) (xs : List X) →
    map f (inserted (λ y. key (f y)) x xs) ≡ inserted key (f x) (map f xs)
inserted-map f key x [] = refl
inserted-map f key x (y ∷ ys) = by_order (id_before (key (f x)) (key (f y))) refl (inserted-map f key x ys)
  where
    by_order : (b : Bool) → id_before (key (f x)) (key (f y)) ≡ b →
        map f (inserted (λ z. key (f z)) x ys) ≡ inserted key (f x) (map f ys) →
        map f (inserted (λ z. key (f z)) x (y ∷ ys)) ≡ inserted key (f x) (map f (y ∷ ys))
    by_order true e rest = ap (map f) (inserted_here (λ z. key (f z)) x y ys e) ∙
        sym (inserted_here key (f x) (f y) (map f ys) e)
    by_order false e rest =
        ap (map f) (inserted_behind (λ z. key (f z)) x y ys e) ∙ ap (λ zs. f y ∷ zs) rest ∙
        sym (inserted_behind key (f x) (f y) (map f ys) e)

pub all_inserted-map : {X Y : Type 0} (f : X → Y) (key : Y → GlobalId) (xs ys : List X) →
    map f (all_inserted (λ y. key (f y)) xs ys) ≡ all_inserted key (map f xs) (map f ys)
all_inserted-map f key [] ys = refl
all_inserted-map f key (x ∷ xs) ys =
    all_inserted-map f key xs (inserted (λ y. key (f y)) x ys) ∙ ap (all_inserted key (map f xs))
    (inserted-map f key x ys)

-- ---- several more elements
pub either-none : {A : Type 0} (o : Option A) → either o None ≡ o
either-none None = refl
either-none (Some a) = refl

either-first : {A : Type 0} (b : Bool) (a : A) (o r : Option A) →
    either (cond b (Some a) o) r ≡ cond b (Some a) (either o r)
either-first true a o r = refl
either-first false a o r = refl

-- what can be put in later has not the id of what is there
later_absent : {X : Type 0} (key : X → GlobalId) (x : X) (zs ws : List X) → CanInsertAll key zs ws →
    with_id key (key x) ws ≡ Some x → with_id key (key x) zs ≡ None
later_absent key x [] ws can there = refl
later_absent key x (z ∷ zs) ws can there =
    let after = with_id-inserted key z ws (key x) can.0 ∙ ap (λ b. cond b (Some z) (with_id key (key x) ws)) apart
    ∙ there in
    found_behind key (key x) z zs apart ∙ later_absent key x zs (inserted key z ws) can.1 after
  where
    by_test : (b : Bool) → same_id (key z) (key x) ≡ b → same_id (key z) (key x) ≡ false
    by_test true t = absurd (cc (sym there ∙ ap (λ a. with_id key a ws) (sym (same_id-is (key z) (key x) t)) ∙ can.0))
    by_test false t = t

    apart : same_id (key z) (key x) ≡ false
    apart = by_test (same_id (key z) (key x)) refl

pub with_id-all_inserted : {X : Type 0} (key : X → GlobalId) (xs ys : List X) (id : GlobalId) → CanInsertAll key xs ys →
    with_id key id (all_inserted key xs ys) ≡ either (with_id key id xs) (with_id key id ys)
with_id-all_inserted key [] ys id can = refl
with_id-all_inserted key (x ∷ xs) ys id can =
    with_id-all_inserted key xs (inserted key x ys) id can.1 ∙ ap (either (with_id key id xs))
    (with_id-inserted key x ys id can.0)
    ∙ swapped (same_id (key x) id) refl
  where
    here : with_id key (key x) (inserted key x ys) ≡ Some x
    here = with_id-inserted key x ys (key x) can.0 ∙ ap (λ b. cond b (Some x) (with_id key (key x) ys))
        (id-same (key x))

    swapped : (b : Bool) → same_id (key x) id ≡ b →
        either (with_id key id xs) (cond (same_id (key x) id) (Some x) (with_id key id ys)) ≡ either
        (cond (same_id (key x) id) (Some x) (with_id key id xs)) (with_id key id ys)
    swapped true e =
        let none = ap (λ a. with_id key a xs) (sym (same_id-is (key x) id e)) ∙ later_absent key x xs
        (inserted key x ys) can.1 here in
        ap (λ o. either o (cond (same_id (key x) id) (Some x) (with_id key id ys))) none ∙
        ap (λ b. cond b (Some x) (with_id key id ys)) e
        ∙ sym (ap (λ b. either (cond b (Some x) (with_id key id xs)) (with_id key id ys)) e)
    swapped false e =
        ap (λ b. either (with_id key id xs) (cond b (Some x) (with_id key id ys))) e ∙
        sym (ap (λ b. either (cond b (Some x) (with_id key id xs)) (with_id key id ys)) e)

pub ascends-all_inserted : {X : Type 0} (key : X → GlobalId) (xs ys : List X) → ascends key ys ≡ true →
    CanInsertAll key xs ys → ascends key (all_inserted key xs ys) ≡ true
ascends-all_inserted key [] ys up can = up
ascends-all_inserted key (x ∷ xs) ys up can =
    ascends-all_inserted key xs (inserted key x ys) (ascends-inserted key x ys up can.0) can.1

pub none_is : {A : Type 0} (o : Option A) → is_none o ≡ true → o ≡ None
none_is None e = refl
none_is (Some a) e = absurd (cc e)

pub is-none : {A : Type 0} (o : Option A) → o ≡ None → is_none o ≡ true
is-none o e = ap is_none e

pub not_true : (b : Bool) → not b ≡ true → b ≡ false
not_true true e = absurd (cc e)
not_true false e = refl

still_absent : {X : Type 0} (key : X → GlobalId) (x : X) (xs ys : List X) → with_id key (key x) ys ≡ None →
    list_all (λ b. not (same_id (key x) b)) (map key xs) ≡ true →
    list_all (λ z. is_none (with_id key (key z) ys)) xs ≡ true →
    list_all (λ z. is_none (with_id key (key z) (inserted key x ys))) xs ≡ true
still_absent key x [] ys new_id apart absent = refl
still_absent key x (z ∷ zs) ys new_id apart absent =
    let aparts = and_parts (not (same_id (key x) (key z))) (list_all (λ b. not (same_id (key x) b)) (map key zs))
    apart in
    let parts = and_parts (is_none (with_id key (key z) ys)) (list_all (λ w. is_none (with_id key (key w) ys)) zs)
    absent in
    let here =
    with_id-inserted key x ys (key z) new_id ∙ ap (λ b. cond b (Some x) (with_id key (key z) ys))
    (not_true (same_id (key x) (key z)) aparts.0)
    ∙ none_is (with_id key (key z) ys) parts.0 in
    and_from (is_none (with_id key (key z) (inserted key x ys)))
    (list_all (λ w. is_none (with_id key (key w) (inserted key x ys))) zs)
    (is-none (with_id key (key z) (inserted key x ys)) here) (still_absent key x zs ys new_id aparts.1 parts.1)

-- elements whose ids differ and are not there
pub can_insert_all : {X : Type 0} (key : X → GlobalId) (xs ys : List X) → ids_differ (map key xs) ≡ true →
    list_all (λ x. is_none (with_id key (key x) ys)) xs ≡ true → CanInsertAll key xs ys
can_insert_all key [] ys differ absent = tt
can_insert_all key (x ∷ xs) ys differ absent =
    let apart = and_parts (list_all (λ b. not (same_id (key x) b)) (map key xs)) (ids_differ (map key xs)) differ in
    let parts = and_parts (is_none (with_id key (key x) ys)) (list_all (λ z. is_none (with_id key (key z) ys)) xs)
    absent in
    let here = none_is (with_id key (key x) ys) parts.0 in
    (here, can_insert_all key xs (inserted key x ys) apart.1 (still_absent key x xs ys here apart.0 parts.1))

-- ascending ids differ
pub ascending-differ : {X : Type 0} (key : X → GlobalId) (xs : List X) → ascends key xs ≡ true →
    ids_differ (map key xs) ≡ true
ascending-differ key [] up = refl
ascending-differ {X = X} key (x ∷ xs) up =
    let parts = and_parts (list_all (λ y. id_before (key x) (key y)) xs) (ascends key xs) up in
    and_from (list_all (λ b. not (same_id (key x) b)) (map key xs)) (ids_differ (map key xs)) (apart x xs parts.0)
    (ascending-differ key xs parts.1)
  where
    apart : (z : X) (zs : List X) → list_all (λ y. id_before (key z) (key y)) zs ≡ true →
        list_all (λ b. not (same_id (key z) b)) (map key zs) ≡ true
    apart z [] h = refl
    apart z (w ∷ ws) h =
        let parts = and_parts (id_before (key z) (key w)) (list_all (λ y. id_before (key z) (key y)) ws) h in
        and_from (not (same_id (key z) (key w))) (list_all (λ b. not (same_id (key z) b)) (map key ws))
        (ap not (before-differs (key z) (key w) parts.0)) (apart z ws parts.1)

-- ---- one element changed
pub has_id : {X : Type 0} (key : X → GlobalId) (id : GlobalId) (xs : List X) (x : X) →
    with_id key id xs ≡ Some x → key x ≡ id
has_id key id [] x e = absurd (cc e)
has_id {X = X} key id (y ∷ ys) x e = by_test (same_id (key y) id) refl (has_id key id ys x)
  where
    by_test : (b : Bool) → same_id (key y) id ≡ b → (with_id key id ys ≡ Some x → key x ≡ id) → key x ≡ id
    by_test true t rest =
        let first : Some y ≡ Some x = sym (ap (λ b. cond b (Some y) (with_id key id ys)) t) ∙ e in
        let same : y ≡ x = cc first in
        ap key (sym same) ∙ same_id-is (key y) id t
    by_test false t rest = rest (sym (found_behind key id y ys t) ∙ e)

pub place_has_id : {X : Type 0} (key : X → GlobalId) (id : GlobalId) (xs : List X) (i : ℕ) (d : X) →
    IsPlaceOf key id xs i → key (get_or xs i d) ≡ id
place_has_id key id xs i d h = has_id key id xs (get_or xs i d) (h.there ∙ slice_get-get_or xs i d h.in_range)

-- the elements, with h at those of this id
abbrev pub changed : {Y : Type 0} → (Y → GlobalId) → GlobalId → (Y → Y) → Y → Y
changed key id h e = cond (same_id (key e) id) (h e) e

none_changed : {Y : Type 0} (key : Y → GlobalId) (id : GlobalId) (h : Y → Y) (ys : List Y) →
    list_all (λ y. id_before id (key y)) ys ≡ true → map (changed key id h) ys ≡ ys
none_changed key id h [] up = refl
none_changed key id h (y ∷ ys) up =
    let parts = and_parts (id_before id (key y)) (list_all (λ z. id_before id (key z)) ys) up in
    ap (λ b. cond b (h y) y ∷ map (changed key id h) ys) (after-differs id (key y) parts.0) ∙ ap (λ zs. y ∷ zs)
    (none_changed key id h ys parts.1)

pub set-changed : {X Y : Type 0} (f : X → Y) (key : Y → GlobalId) (id : GlobalId) (h : Y → Y) (xs : List X)
    (i : ℕ) (x : X) → ascends key (map f xs) ≡ true → i < length xs →
    ((d : X) → key (f (get_or xs i d)) ≡ id) → ((d : X) → f x ≡ h (f (get_or xs i d))) →
    map f (set xs i x) ≡ map (changed key id h) (map f xs)
set-changed f key id h [] i x up lt here is = absurd (omega arith)
set-changed f key id h (y ∷ ys) zero x up lt here is =
    let parts = and_parts (list_all (λ z. id_before (key (f y)) (key z)) (map f ys)) (ascends key (map f ys)) up in
    let others = none_changed key id h (map f ys)
    (subst (λ a. list_all (λ z. id_before a (key z)) (map f ys) ≡ true) (here y) parts.0) in
    let test = ap (λ a. same_id a id) (here y) ∙ id-same id in
    ap (λ z. z ∷ map f ys) (is y) ∙ sym (ap (λ b. cond b (h (f y)) (f y) ∷ map f ys) test) ∙
    sym (ap (λ zs. changed key id h (f y) ∷ zs) others)
set-changed f key id h (y ∷ ys) (suc i) x up lt here is =
    let parts = and_parts (list_all (λ z. id_before (key (f y)) (key z)) (map f ys)) (ascends key (map f ys)) up in
    let room : i < length (map f ys) = omega (arith, length-map ys f) in
    let before = all-at (λ z. id_before (key (f y)) (key z)) (map f ys) i (f y) parts.0 room in
    let at = get_or-map f ys i y in
    let first = subst (λ a. id_before (key (f y)) a ≡ true) (ap key at ∙ here y) before in
    ap (λ zs. f y ∷ zs) (set-changed f key id h ys i x parts.1 (omega arith) here is)
    ∙ sym (ap (λ b. cond b (h (f y)) (f y) ∷ map (changed key id h) (map f ys)) (before-differs (key (f y)) id first))

pub ascends-changed : {Y : Type 0} (key : Y → GlobalId) (id : GlobalId) (h : Y → Y) (ys : List Y) →
    ((y : Y) → key (h y) ≡ key y) → ascends key (map (changed key id h) ys) ≡ ascends key ys
ascends-changed {Y = Y} key id h ys keeps =
    ascends-map (changed key id h) key ys ∙ ap (λ k. ascends k ys) (fun_ext λ y. at (same_id (key y) id) y)
  where
    at : (b : Bool) (y : Y) → key (cond b (h y) y) ≡ key y
    at true y = keeps y
    at false y = refl

-- ---- some of the elements
pub filter_yes : {X : Type 0} (q : X → Bool) (x : X) (xs : List X) → q x ≡ true → filter q (x ∷ xs) ≡ x ∷ filter q xs
filter_yes q x xs e = ap (λ b. cond b (x ∷ filter q xs) (filter q xs)) e

pub filter_no : {X : Type 0} (q : X → Bool) (x : X) (xs : List X) → q x ≡ false → filter q (x ∷ xs) ≡ filter q xs
filter_no q x xs e = ap (λ b. cond b (x ∷ filter q xs) (filter q xs)) e

abbrev pub only : {A : Type 0} → (A → Bool) → Option A → Option A
only p None = None
only p (Some a) = cond (p a) (Some a) None

pub all-filter : {X : Type 0} (p q : X → Bool) (xs : List X) → list_all p xs ≡ true → list_all p (filter q xs) ≡ true
all-filter p q [] h = refl
all-filter p q (x ∷ xs) h = by_test (q x) refl (all-filter p q xs (and_parts (p x) (list_all p xs) h).1)
  where
    by_test : (b : Bool) → q x ≡ b → list_all p (filter q xs) ≡ true → list_all p (filter q (x ∷ xs)) ≡ true
    by_test true e rest = ap (list_all p) (filter_yes q x xs e) ∙ and_from (p x) (list_all p (filter q xs))
        (and_parts (p x) (list_all p xs) h).0 rest
    by_test false e rest = ap (list_all p) (filter_no q x xs e) ∙ rest

pub ascends-filter : {X : Type 0} (key : X → GlobalId) (q : X → Bool) (xs : List X) → ascends key xs ≡ true →
    ascends key (filter q xs) ≡ true
ascends-filter key q [] up = refl
ascends-filter key q (x ∷ xs) up =
    by_test (q x) refl (ascends-filter key q xs
    (and_parts (list_all (λ y. id_before (key x) (key y)) xs) (ascends key xs) up).1)
  where
    by_test : (b : Bool) → q x ≡ b → ascends key (filter q xs) ≡ true → ascends key (filter q (x ∷ xs)) ≡ true
    by_test true e rest =
        ap (ascends key) (filter_yes q x xs e)
        ∙ and_from (list_all (λ y. id_before (key x) (key y)) (filter q xs)) (ascends key (filter q xs))
        (all-filter (λ y. id_before (key x) (key y)) q xs
        (and_parts (list_all (λ y. id_before (key x) (key y)) xs) (ascends key xs) up).0) rest
    by_test false e rest = ap (ascends key) (filter_no q x xs e) ∙ rest

-- no element behind has the id of one before
pub all_before-absent : {X : Type 0} (key : X → GlobalId) (id : GlobalId) (xs : List X) →
    list_all (λ y. id_before id (key y)) xs ≡ true → with_id key id xs ≡ None
all_before-absent key id [] h = refl
all_before-absent key id (x ∷ xs) h =
    let parts = and_parts (id_before id (key x)) (list_all (λ y. id_before id (key y)) xs) h in
    found_behind key id x xs (after-differs id (key x) parts.0) ∙ all_before-absent key id xs parts.1

pub with_id-filter : {X : Type 0} (key : X → GlobalId) (q : X → Bool) (id : GlobalId) (xs : List X) →
    ascends key xs ≡ true → with_id key id (filter q xs) ≡ only q (with_id key id xs)
with_id-filter key q id [] up = refl
with_id-filter key q id (x ∷ xs) up =
    let parts = and_parts (list_all (λ y. id_before (key x) (key y)) xs) (ascends key xs) up in
    by_test (q x) (same_id (key x) id) refl refl parts.0 (with_id-filter key q id xs parts.1)
  where
    by_test : (b c : Bool) → q x ≡ b → same_id (key x) id ≡ c → list_all (λ y. id_before (key x) (key y)) xs ≡ true →
        with_id key id (filter q xs) ≡ only q (with_id key id xs) →
        with_id key id (filter q (x ∷ xs)) ≡ only q (with_id key id (x ∷ xs))
    by_test true true e f up rest =
        ap (with_id key id) (filter_yes q x xs e) ∙ ap (λ b. cond b (Some x) (with_id key id (filter q xs))) f
        ∙ sym (ap (λ b. cond b (Some x) None) e) ∙ sym (ap (λ b. only q (cond b (Some x) (with_id key id xs))) f)
    by_test true false e f up rest =
        ap (with_id key id) (filter_yes q x xs e) ∙ found_behind key id x (filter q xs) f ∙ rest ∙
        sym (ap (only q) (found_behind key id x xs f))
    by_test false true e f up rest =
        let none = all_before-absent key id xs
        (subst (λ a. list_all (λ y. id_before a (key y)) xs ≡ true) (same_id-is (key x) id f) up) in
        ap (with_id key id) (filter_no q x xs e) ∙ rest ∙ ap (only q) none
        ∙ sym (ap (λ b. cond b (Some x) None) e) ∙ sym (ap (λ b. only q (cond b (Some x) (with_id key id xs))) f)
    by_test false false e f up rest =
        ap (with_id key id) (filter_no q x xs e) ∙ rest ∙ sym (ap (only q) (found_behind key id x xs f))

pub filter_all : {X : Type 0} (xs : List X) → filter (λ x. true) xs ≡ xs
filter_all [] = refl
filter_all (x ∷ xs) = ap (λ ys. x ∷ ys) (filter_all xs)

-- ---- lists that share no id
not_absent_at : {X : Type 0} (key : X → GlobalId) (xs : List X) (k : ℕ) (d : X) → k < length xs →
    with_id key (key (get_or xs k d)) xs ≡ None → ⊥
not_absent_at key [] k d lt e = absurd (omega arith)
not_absent_at key (x ∷ xs) zero d lt e = true≢false (sym (id-same (key x)) ∙ (absent_first key (key x) x xs e).0)
not_absent_at key (x ∷ xs) (suc k) d lt e =
    not_absent_at key xs k d (omega arith) (absent_first key (key (get_or xs k d)) x xs e).1

pub disjoint-insert : {X : Type 0} (key : X → GlobalId) (xs ys : List X) → ascends key xs ≡ true →
    ((id : GlobalId) → (with_id key id ys ≡ None) ⊎ (with_id key id xs ≡ None)) → CanInsertAll key xs ys
disjoint-insert {X = X} key xs ys up apart =
    can_insert_all key xs ys (ascending-differ key xs up)
    (list_all-from_AllPass (λ x. is_none (with_id key (key x) ys)) xs here)
  where
    here : (k : ℕ) (d : X) → k < length xs → is_none (with_id key (key (get_or xs k d)) ys) ≡ true
    here k d lt =
        let id = key (get_or xs k d) in
        elim (apart id) [
          | inl none ↦ is-none (with_id key id ys) none
          | inr none ↦
              absurd (not_absent_at key xs k d lt none)
        ]

pub with_id-changed : {Y : Type 0} (key : Y → GlobalId) (id : GlobalId) (h : Y → Y) (i : GlobalId) (ys : List Y) →
    ((y : Y) → key (h y) ≡ key y) →
    with_id key i (map (changed key id h) ys) ≡ option_map (changed key id h) (with_id key i ys)
with_id-changed {Y = Y} key id h i ys keeps =
    with_id-map (changed key id h) key i ys ∙ ap (λ k. option_map (changed key id h) (with_id k i ys))
    (fun_ext λ y. at (same_id (key y) id) y)
  where
    at : (b : Bool) (y : Y) → key (cond b (h y) y) ≡ key y
    at true y = keeps y
    at false y = refl
