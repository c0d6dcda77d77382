-- Places by their ranks are the modules by theirs.
use Rattle.std.proofs.Common.{◌≡◌, ℕ, zero, suc, ◌+◌, ◌<◌, Bool, true, false, cond, List, [], ◌∷◌, ◌++◌, map, length, replicate, take, slice_index_or, slice_set, Option, Some, None, refl, sym, ap, ◌∙◌, subst, arith}
use Rattle.std.specs.Prelude.{◌==◌, filter, unwrap_or}
use Rattle.std.specs.Option.{option_map_or}
use Rattle.std.proofs.lemmas.Bool.{ne_eqb, eq-eqb}
use Rattle.std.proofs.lemmas.List.{length-map, map-set, take_more}
use mathlib.Core.Path.{ap₂}
use Rattle.qtt_graph.specs.Graph.{Name, Graph, header_name, names, is_among, in_byte_order}
use Rattle.qtt_graph.specs.Ranks.{place, rank, has_rank, of_rank, put_first, by_rank, ranked}
use Rattle.qtt_graph.specs.Laws.{Closed}
use Rattle.qtt_graph.specs.Modules.{order_of, name_at}
use Rattle.qtt_graph.specs.Levels.{AreRanks, has, levels}
use Rattle.qtt_graph.proofs.Among.{in-head, in-tail}
use Rattle.qtt_graph.proofs.Order.{in_order-among}
use Rattle.qtt_graph.proofs.ByName.{there-placed}
use Rattle.qtt_graph.proofs.Following.{place-at, rank-below, mapped}

-- ---- one place more
filter-behind : (f : ℕ → Bool) (ps : List ℕ) (p : ℕ) →
    filter f (ps ++ p ∷ []) ≡ filter f ps ++ cond (f p) (p ∷ []) []
filter-behind f [] p = refl
filter-behind f (q ∷ ps) p = by_test (f q) (filter-behind f ps p)
  where
    by_test : (t : Bool) → filter f (ps ++ p ∷ []) ≡ filter f ps ++ cond (f p) (p ∷ []) [] →
        cond t (q ∷ filter f (ps ++ p ∷ [])) (filter f (ps ++ p ∷ [])) ≡
        cond t (q ∷ filter f ps) (filter f ps) ++ cond (f p) (p ∷ []) []
    by_test true e = ap (λ qs. q ∷ qs) e
    by_test false e = e

nothing-behind : (qs : List ℕ) → qs ++ [] ≡ qs
nothing-behind [] = refl
nothing-behind (q ∷ qs) = ap (λ rs. q ∷ rs) (nothing-behind qs)

abbrev pub rank_at : List (Option ℕ) → ℕ → Option ℕ
rank_at ranks p = slice_index_or ranks p None

has-rank : (ranks : List (Option ℕ)) (p r s : ℕ) → rank_at ranks p ≡ Some s → has ranks r p ≡ (s == r)
has-rank ranks p r s e = ap (λ o. option_map_or (λ n. n == r) o false) e

other-rank : (ranks : List (Option ℕ)) (ps : List ℕ) (p r : ℕ) → has ranks r p ≡ false →
    filter (has ranks r) (ps ++ p ∷ []) ≡ filter (has ranks r) ps
other-rank ranks ps p r other =
    filter-behind (has ranks r) ps p ∙ ap (λ t. filter (has ranks r) ps ++ cond t (p ∷ []) []) other ∙
    nothing-behind (filter (has ranks r) ps)

this-rank : (ranks : List (Option ℕ)) (ps : List ℕ) (p r : ℕ) → has ranks r p ≡ true →
    filter (has ranks r) (ps ++ p ∷ []) ≡ filter (has ranks r) ps ++ p ∷ []
this-rank ranks ps p r is =
    filter-behind (has ranks r) ps p ∙ ap (λ t. filter (has ranks r) ps ++ cond t (p ∷ []) []) is

above-it : (ranks : List (Option ℕ)) (ps : List ℕ) (p s r n : ℕ) → rank_at ranks p ≡ Some s → s < r →
    levels ranks (ps ++ p ∷ []) r n ≡ levels ranks ps r n
above-it ranks ps p s r zero e l = refl
above-it ranks ps p s r (suc n) e l =
    ap₂ (λ q qs. q ∷ qs) (other-rank ranks ps p r (has-rank ranks p r s e ∙ ne_eqb s r (λ d. omega (arith, l, d))))
    (above-it ranks ps p s (suc r) n e (omega (arith, l)))

abbrev put_behind : List (List ℕ) → ℕ → ℕ → List (List ℕ)
put_behind ls i p = slice_set ls i (slice_index_or ls i [] ++ p ∷ [])

pub levels-step : (ranks : List (Option ℕ)) (ps : List ℕ) (p s r n i : ℕ) → rank_at ranks p ≡ Some s → s ≡ r + i →
    i < n → levels ranks (ps ++ p ∷ []) r n ≡ put_behind (levels ranks ps r n) i p
levels-step ranks ps p s r zero i e is l = absurd (omega (arith, l))
levels-step ranks ps p s r (suc n) zero e is l =
    ap₂ (λ q qs. q ∷ qs) (this-rank ranks ps p r (has-rank ranks p r s e ∙ eq-eqb s r (omega (arith, is))))
    (above-it ranks ps p s (suc r) n e (omega (arith, is)))
levels-step ranks ps p s r (suc n) (suc i) e is l =
    ap₂ (λ q qs. q ∷ qs) (other-rank ranks ps p r (has-rank ranks p r s e ∙ ne_eqb s r (λ d. omega (arith, is, d))))
    (levels-step ranks ps p s (suc r) n i e (omega (arith, is)) (omega (arith, l)))

-- a place without a rank is in no level
pub levels-kept : (ranks : List (Option ℕ)) (ps : List ℕ) (p r n : ℕ) → rank_at ranks p ≡ None →
    levels ranks (ps ++ p ∷ []) r n ≡ levels ranks ps r n
levels-kept ranks ps p r zero e = refl
levels-kept ranks ps p r (suc n) e =
    ap₂ (λ q qs. q ∷ qs) (other-rank ranks ps p r (ap (λ o. option_map_or (λ n. n == r) o false) e))
    (levels-kept ranks ps p (suc r) n e)

-- ---- the modules by rank
placed-back : (g : Graph) (a : Name) → is_among (names g) a ≡ true →
    (name_at g (place g a) ≡ a) × (place g a < length g)
placed-back g a i =
    let p = there-placed (names g) a i in
    let is : place g a ≡ p.0 = ap (λ o. unwrap_or o 0) p.1 in
    let at = place-at (names g) a p.0 p.1 in
    let long : length (names g) ≡ length g = length-map g header_name in
    (ap (name_at g) is ∙ at.0, omega (arith, is, at.1, long))

same-test : (g : Graph) (ranks : List (Option ℕ)) (r : ℕ) (a : Name) → AreRanks g ranks →
    is_among (names g) a ≡ true → has ranks r (place g a) ≡ has_rank g r a
same-test g ranks r a each i =
    let back = placed-back g a i in
    let is = sym (ap (rank g) back.0) ∙ each.each (place g a) None back.1 in
    sym (ap (λ o. option_map_or (λ n. n == r) o false) is)

filtered : (g : Graph) (ranks : List (Option ℕ)) (r : ℕ) → AreRanks g ranks → (bs : List Name) →
    ((b : Name) → is_among bs b ≡ true → is_among (names g) b ≡ true) →
    filter (has ranks r) (map (place g) bs) ≡ map (place g) (filter (has_rank g r) bs)
filtered g ranks r each [] there = refl
filtered g ranks r each (b ∷ bs) there =
    by_test (has_rank g r b) (same-test g ranks r b each (there b (in-head b b bs refl)))
    (filtered g ranks r each bs (λ c i. there c (in-tail c b bs i)))
  where
    by_test : (t : Bool) → has ranks r (place g b) ≡ t →
        filter (has ranks r) (map (place g) bs) ≡ map (place g) (filter (has_rank g r) bs) →
        cond (has ranks r (place g b)) (place g b ∷ filter (has ranks r) (map (place g) bs))
        (filter (has ranks r) (map (place g) bs)) ≡
        map (place g) (cond t (b ∷ filter (has_rank g r) bs) (filter (has_rank g r) bs))
    by_test true e later =
        ap (λ t. cond t (place g b ∷ filter (has ranks r) (map (place g) bs)) (filter (has ranks r) (map
        (place g) bs))) e ∙
        ap (λ ps. place g b ∷ ps) later
    by_test false e later =
        ap (λ t. cond t (place g b ∷ filter (has ranks r) (map (place g) bs)) (filter (has ranks r) (map
        (place g) bs))) e ∙
        later

-- the levels that are not empty
abbrev pub filled : List (List ℕ) → List (List ℕ)
filled [] = []
filled (ps ∷ more) = put_first ps (filled more)

map-put : {A B : Type 0} (f : A → B) (xs : List A) (more : List (List A)) →
    map (map f) (put_first xs more) ≡ put_first (map f xs) (map (map f) more)
map-put f [] more = refl
map-put f (x ∷ xs) more = refl

levels-ranked : (g : Graph) (ranks : List (Option ℕ)) → AreRanks g ranks → (r n : ℕ) →
    filled (levels ranks (order_of g) r n) ≡ map (map (place g)) (by_rank g r n)
levels-ranked g ranks each r zero = refl
levels-ranked g ranks each r (suc n) =
    ap₂ put_first (filtered g ranks r each (in_byte_order (names g)) (λ b i. in_order-among b (names g) i))
    (levels-ranked g ranks each (suc r) n) ∙
    sym (map-put (place g) (of_rank g r) (by_rank g (suc r) n))

pub filled-ranked : (g : Graph) (ranks : List (Option ℕ)) → AreRanks g ranks →
    filled (levels ranks (order_of g) 0 (length g)) ≡ ranked g
filled-ranked g ranks each = levels-ranked g ranks each 0 (length g)

-- where there is an element it does not matter what stands for a missing one
pub whatever-else : {A : Type 0} (xs : List A) (i : ℕ) (d e : A) → i < length xs →
    slice_index_or xs i d ≡ slice_index_or xs i e
whatever-else [] i d e l = absurd (omega (arith, l))
whatever-else (x ∷ xs) zero d e l = refl
whatever-else (x ∷ xs) (suc i) d e l = whatever-else xs i d e (omega (arith, l))

-- ---- levels as places are put in
pub levels-empty : (ranks : List (Option ℕ)) (r n : ℕ) → levels ranks [] r n ≡ replicate n []
levels-empty ranks r zero = refl
levels-empty ranks r (suc n) = ap (λ ls. [] ∷ ls) (levels-empty ranks (suc r) n)

pub levels-length : (ranks : List (Option ℕ)) (ps : List ℕ) (r n : ℕ) → length (levels ranks ps r n) ≡ n
levels-length ranks ps r zero = refl
levels-length ranks ps r (suc n) = ap suc (levels-length ranks ps (suc r) n)

placed-at : (g : Graph) (bs : List Name) (i : ℕ) → ((b : Name) → is_among bs b ≡ true → is_among (names g) b ≡ true) →
    i < length bs → slice_index_or (map (place g) bs) i 0 < length g
placed-at g [] i there l = absurd (omega (arith, l))
placed-at g (b ∷ bs) zero there l = (placed-back g b (there b (in-head b b bs refl))).1
placed-at g (b ∷ bs) (suc i) there l = placed-at g bs i (λ c j. there c (in-tail c b bs j)) (omega (arith, l))

pub order-at : (g : Graph) (order : List ℕ) (i : ℕ) → order ≡ order_of g → i < length order →
    slice_index_or order i 0 < length g
order-at g order i is l =
    let long : length order ≡ length (in_byte_order (names g)) = ap length is ∙ length-map (in_byte_order (names g))
    (place g) in
    subst (λ ps. slice_index_or ps i 0 < length g) (sym is)
    (placed-at g (in_byte_order (names g)) i (λ b j. in_order-among b (names g) j) (omega (arith, l, long)))

pub rank-at : (g : Graph) → Closed g → (ranks : List (Option ℕ)) (p r : ℕ) → AreRanks g ranks → p < length g →
    rank_at ranks p ≡ Some r → r < length g
rank-at g closed ranks p r each l e = rank-below g closed p r l (each.each p None l ∙ e)

-- the level of a place with it behind
pub put-step : {A : Type 0} (items : A → List ℕ) (before : List A) (level : A) (ranks : List (Option ℕ))
    (order : List ℕ) (k n r : ℕ) (held : A) (number : ℕ) → k < length order →
    rank_at ranks (slice_index_or order k 0) ≡ Some r → r < n → map items before ≡ levels ranks (take k order) 0 n →
    held ≡ slice_index_or before r held → number ≡ slice_index_or order k 0 →
    items level ≡ items held ++ number ∷ [] →
    map items (slice_set before r level) ≡ levels ranks (take (k + 1) order) 0 n
put-step items before level ranks order k n r held number l e low so there-held is-number is =
    let p = slice_index_or order k 0 in
    let there : r < length before =
    subst (λ m. r < m) (sym (sym (length-map before items) ∙ ap length so ∙ levels-length ranks
    (take k order) 0 n)) low in
    map-set items before r level ∙ ap (slice_set (map items before) r) (is ∙
    ap (λ q. items held ++ q ∷ []) is-number ∙
    ap (λ q. q ++ p ∷ []) (ap items there-held ∙ sym (mapped items before r held there))) ∙
    ap (λ ls. put_behind ls r p) so ∙
    sym (ap (λ ps. levels ranks ps 0 n) (take_more order k 0 l) ∙
    levels-step ranks (take k order) p r 0 n r e (omega arith) low)

-- a place that has no rank is passed over
pub pass-step : (ranks : List (Option ℕ)) (order : List ℕ) (k n : ℕ) → k < length order →
    rank_at ranks (slice_index_or order k 0) ≡ None →
    levels ranks (take k order) 0 n ≡ levels ranks (take (k + 1) order) 0 n
pass-step ranks order k n l e =
    sym (ap (λ ps. levels ranks ps 0 n) (take_more order k 0 l) ∙
    levels-kept ranks (take k order) (slice_index_or order k 0) 0 n e)

-- what is not empty is what is put in front
abbrev pub is_filled : List ℕ → Bool
is_filled [] = false
is_filled (p ∷ ps) = true

pub filled-kept : {A : Type 0} (items : A → List ℕ) (ls : List A) →
    map items (filter (λ l. is_filled (items l)) ls) ≡ filled (map items ls)
filled-kept items [] = refl
filled-kept items (l ∷ ls) = by_items (items l) refl (filled-kept items ls)
  where
    by_items : (ps : List ℕ) → items l ≡ ps →
        map items (filter (λ l. is_filled (items l)) ls) ≡ filled (map items ls) →
        map items (cond (is_filled (items l)) (l ∷ filter (λ l. is_filled (items l)) ls)
        (filter (λ l. is_filled (items l)) ls)) ≡ put_first (items l) (filled (map items ls))
    by_items [] e later =
        ap (λ ps. map items (cond (is_filled ps) (l ∷ filter (λ l. is_filled (items l)) ls)
        (filter (λ l. is_filled (items l)) ls))) e ∙
        later ∙ sym (ap (λ ps. put_first ps (filled (map items ls))) e)
    by_items (p ∷ ps) e later =
        ap (λ qs. map items (cond (is_filled qs) (l ∷ filter (λ l. is_filled (items l)) ls)
        (filter (λ l. is_filled (items l)) ls))) e ∙
        ap₂ (λ q qs. q ∷ qs) e later ∙ sym (ap (λ qs. put_first qs (filled (map items ls))) e)

named-at : (g : Graph) (bs : List Name) (i : ℕ) → ((b : Name) → is_among bs b ≡ true → is_among (names g) b ≡ true) →
    i < length bs → name_at g (slice_index_or (map (place g) bs) i 0) ≡ slice_index_or bs i []
named-at g [] i there l = absurd (omega (arith, l))
named-at g (b ∷ bs) zero there l = (placed-back g b (there b (in-head b b bs refl))).0
named-at g (b ∷ bs) (suc i) there l = named-at g bs i (λ c j. there c (in-tail c b bs j)) (omega (arith, l))

-- the module at a place of the order is the one that stands there in byte order
pub order-named : (g : Graph) (order : List ℕ) (i : ℕ) → order ≡ order_of g → i < length order →
    (name_at g (slice_index_or order i 0) ≡ slice_index_or (in_byte_order (names g)) i []) ×
    (i < length (in_byte_order (names g)))
order-named g order i is l =
    let long : length order ≡ length (in_byte_order (names g)) = ap length is ∙ length-map (in_byte_order (names g))
    (place g) in
    let there : i < length (in_byte_order (names g)) = omega (arith, l, long) in (
      ap (λ ps. name_at g (slice_index_or ps i 0)) is ∙
          named-at g (in_byte_order (names g)) i (λ b j. in_order-among b (names g) j) there,
      there,
    )
