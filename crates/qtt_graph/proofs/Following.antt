-- Ranks found by following imports.
use Rattle.std.proofs.Common.{◌≡◌, ℕ, zero, suc, ◌+◌, ◌-◌, ◌≤◌, ◌<◌, Bool, true, false, cond, List, [], ◌∷◌, ◌++◌, map, length, take, slice_index_or, Option, Some, None, refl, sym, ap, ◌∙◌, subst, ◌⊎◌, inl, inr, arith, Less, Equal, Greater}
use Rattle.std.specs.Prelude.{◌==◌, max, option_map, filter, find}
use Rattle.std.specs.List.{AllByRecursion}
use Rattle.std.proofs.lemmas.List.{length-map, take_more}
use Rattle.std.specs.Ordering.{ord_max, nat_cmp, is_lt}
use Rattle.std.proofs.lemmas.Bool.{cases_lt, lt-ltb, le-ltb}
use mathlib.Core.Path.{ap₂}
use Rattle.qtt_syntax.specs.declared.module.Import.{Import}
use Rattle.qtt_graph.specs.Graph.{Name, Header, Graph, counts, header_name, import_name, imports_in, below, names, same_name, is_among}
use Rattle.qtt_graph.specs.Ring.{Imports, Leads}
use Rattle.qtt_graph.specs.Ring.Leads.{by_import, onward}
use Rattle.qtt_graph.specs.Ranks.{place_among, one_above, rank_within, rank}
use Rattle.qtt_graph.specs.Laws.{Closed}
use Rattle.qtt_graph.specs.Modules.{put_found, places_imported, rows_of, name_at, ArePlaces}
use Rattle.qtt_graph.proofs.Among.{none≢some, some-injective, same-is, same-self, in-head, in-tail, in-cases, Once, once-fits}
use Rattle.qtt_graph.proofs.NamePlaces.{in-at, map-behind}
use Rattle.qtt_graph.proofs.ByName.{there-placed}
use Rattle.qtt_graph.proofs.Ranked.{joined, joined-parts, one_above-all, one_above-reached, one_step_more, steps_more, Along, along-leads, along-named}

-- ---- a module has one rank
abbrev pub Ranks : Graph → Name → ℕ → Type 0
Ranks g a r = (n : ℕ) × (rank_within g n a ≡ Some r)

one-rank : (g : Graph) (a : Name) (r s : ℕ) → Ranks g a r → Ranks g a s → r ≡ s
one-rank g a r s (n, e) (m, d) =
    let swap : n + m ≡ m + n = omega arith in
    some-injective (sym (steps_more g m n a r e) ∙
    subst (λ k. rank_within g k a ≡ Some s) swap (steps_more g n m a s d))

import-ranks : (g : Graph) (a b : Name) (r : ℕ) → Imports g a b → Ranks g a r → (s : ℕ) × Ranks g b s × (s < r)
import-ranks g a b r i (zero, e) = absurd (none≢some e)
import-ranks g a b r i (suc n, e) =
    let s = one_above-all (rank_within g n) (below g a) r e b i in
    (s.0, (n, s.1), s.2)

leads-below : (g : Graph) (a b : Name) (r : ℕ) → Leads g a b → Ranks g a r → (s : ℕ) × Ranks g b s × (s < r)
leads-below g a b r (by_import i) k = import-ranks g a b r i k
leads-below g a b r (onward {b = c} i l) k =
    let s = import-ranks g a c r i k in
    let t = leads-below g c b s.0 l s.1 in
    (t.0, t.1, omega (arith, s.2, t.2))

pub not-to-itself : (g : Graph) (a : Name) (r : ℕ) → Ranks g a r → Leads g a a → ⊥
not-to-itself g a r k l =
    let s = leads-below g a a r l k in
    let same = one-rank g a r s.0 k s.1 in
    absurd (omega (arith, s.2, same))

-- ---- a rank is less than the number of modules
descend : (g : Graph) (r : ℕ) (a : Name) → Ranks g a r → (bs : List Name) × (length bs ≡ r) × Along g a bs
descend g zero a k = ([], refl, tt)
descend g (suc s) a (zero, e) = absurd (none≢some e)
descend g (suc s) a (suc n, e) =
    let b = one_above-reached (rank_within g n) (below g a) s e in
    let rest = descend g s b.0 (n, b.2) in
    (b.0 ∷ rest.0, ap suc rest.1, (b.1, rest.2))

along-once : (g : Graph) (a : Name) (r : ℕ) (bs : List Name) → Ranks g a r → Along g a bs → Once (a ∷ bs)
along-once g a r [] k w = (refl, tt)
along-once g a r (b ∷ bs) k w =
    let s = import-ranks g a b r w.0 k in
    by_test (is_among (b ∷ bs) a) refl (along-once g b s.0 bs s.1 w.1)
  where
    by_test : (t : Bool) → is_among (b ∷ bs) a ≡ t → Once (b ∷ bs) → Once (a ∷ b ∷ bs)
    by_test false e o = (e, o)
    by_test true e o = absurd (not-to-itself g a r k (along-leads g a a (b ∷ bs) w e))

pub rank-fits : (g : Graph) → Closed g → (a : Name) (r : ℕ) → is_among (names g) a ≡ true → Ranks g a r → r < length g
rank-fits g closed a r i k = by_chain (descend g r a k)
  where
    by_chain : (bs : List Name) × (length bs ≡ r) × Along g a bs → r < length g
    by_chain (bs, long, w) =
        let fits = once-fits (a ∷ bs) (names g) (along-once g a r bs k w) (i, along-named g closed a bs w) in
        let many : length (names g) ≡ length g = length-map g header_name in
        omega (arith, fits, many, long)

-- ---- as many steps as the rank, and one, are enough
one_above-below : (f h : Name → Option ℕ) (R : ℕ) → ((b : Name) (s : ℕ) → f b ≡ Some s → s < R → h b ≡ Some s) →
    (ns : List Name) (r : ℕ) → r ≤ R → one_above (map f ns) ≡ Some r → one_above (map h ns) ≡ Some r
one_above-below f h R more [] r l e = e
one_above-below f h R more (n ∷ ns) r l e =
    by_parts (one_above-below f h R more ns) (joined-parts (f n) (one_above (map f ns)) r e)
  where
    by_parts : ((k : ℕ) → k ≤ R → one_above (map f ns) ≡ Some k → one_above (map h ns) ≡ Some k) →
        (m : ℕ) × (k : ℕ) × (f n ≡ Some m) × (one_above (map f ns) ≡ Some k) × (max (suc m) k ≡ r) →
        joined (h n) (one_above (map h ns)) ≡ Some r
    by_parts further (m, k, here, rest, is) =
        ap (λ o. joined o (one_above (map h ns))) (more n m here (omega (arith, l, is))) ∙
        ap (λ o. joined (Some m) o) (further k (omega (arith, l, is)) rest) ∙ ap Some is

enough : (g : Graph) (n : ℕ) (a : Name) (r : ℕ) → rank_within g n a ≡ Some r → rank_within g (suc r) a ≡ Some r
enough g zero a r e = absurd (none≢some e)
enough g (suc n) a r e =
    one_above-below (rank_within g n) (rank_within g r) r
    (λ b s d l.
    let there : (r - suc s) + suc s ≡ r = omega (arith, l) in
    subst (λ k. rank_within g k b ≡ Some s) there (steps_more g (r - suc s) (suc s) b s (enough g n b s d)))
    (below g a) r (omega arith) e

pub rank-of_imports : (g : Graph) → Closed g → (a : Name) (r : ℕ) → is_among (names g) a ≡ true →
    one_above (map (rank g) (below g a)) ≡ Some r → rank g a ≡ Some r
rank-of_imports g closed a r i e =
    let k : Ranks g a r = (suc (length g), e) in
    let fits = rank-fits g closed a r i k in
    let there : (length g - suc r) + suc r ≡ length g = omega (arith, fits) in
    subst (λ n. rank_within g n a ≡ Some r) there (steps_more g (length g - suc r) (suc r) a r (enough g (suc
    (length g)) a r e))

-- ---- one import without a rank
pub one_above-unranked : (f : Name → Option ℕ) (ns : List Name) (b : Name) → is_among ns b ≡ true → f b ≡ None →
    one_above (map f ns) ≡ None
one_above-unranked f [] b i e = absurd (cc i)
one_above-unranked f (n ∷ ns) b i e = by_case (one_above-unranked f ns b) (in-cases b n ns i) (f n) refl
  where
    by_case : (is_among ns b ≡ true → f b ≡ None → one_above (map f ns) ≡ None) →
        (b ≡ n) ⊎ (is_among ns b ≡ true) → (o : Option ℕ) → f n ≡ o → joined (f n) (one_above (map f ns)) ≡ None
    by_case further (inl same) o d = ap (λ p. joined p (one_above (map f ns))) (subst (λ c. f c ≡ None) same e)
    by_case further (inr later) None d = ap (λ p. joined p (one_above (map f ns))) d
    by_case further (inr later) (Some k) d =
        ap (λ p. joined p (one_above (map f ns))) d ∙ ap (joined (Some k)) (further later e)

-- ---- the greatest so far
one_above-behind : (os : List (Option ℕ)) (k n : ℕ) → one_above os ≡ Some k →
    one_above (os ++ Some n ∷ []) ≡ Some (max k (n + 1))
one_above-behind [] k n e =
    let zero-is : 0 ≡ k = some-injective e in
    let is : max (suc n) 0 ≡ max k (n + 1) = omega (arith, zero-is) in
    ap Some is
one_above-behind (o ∷ os) k n e = by_parts (one_above-behind os) (joined-parts o (one_above os) k e)
  where
    by_parts : ((j m : ℕ) → one_above os ≡ Some j → one_above (os ++ Some m ∷ []) ≡ Some (max j (m + 1))) →
        (m : ℕ) × (j : ℕ) × (o ≡ Some m) × (one_above os ≡ Some j) × (max (suc m) j ≡ k) →
        joined o (one_above (os ++ Some n ∷ [])) ≡ Some (max k (n + 1))
    by_parts further (m, j, here, rest, is) =
        let same : max (suc m) (max j (n + 1)) ≡ max k (n + 1) = omega (arith, is) in
        ap (λ p. joined p (one_above (os ++ Some n ∷ []))) here ∙ ap (joined (Some m)) (further j n rest) ∙ ap Some same

-- the greater of two as the code's numbers are compared
pub max-is : (a b : ℕ) → max a b ≡ ord_max nat_cmp a b
max-is a b = by_order (cases_lt b a)
  where
    other : (t : Bool) → cond (is_lt (cond t Equal Greater)) a b ≡ b
    other true = refl
    other false = refl

    by_order : (b < a) ⊎ (a ≤ b) → max a b ≡ ord_max nat_cmp a b
    by_order (inl h) =
        let left : max a b ≡ a = omega (arith, h) in
        left ∙ sym (ap (λ t. cond (is_lt (cond t Less (cond (b == a) Equal Greater))) a b) (lt-ltb b a h))
    by_order (inr h) =
        let right : max a b ≡ b = omega (arith, h) in
        right ∙ sym (ap (λ t. cond (is_lt (cond t Less (cond (b == a) Equal Greater))) a b) (le-ltb b a h) ∙ other
        (b == a))

-- ---- rows and names
pub place-at : (ns : List Name) (a : Name) (p : ℕ) → place_among ns a ≡ Some p →
    (slice_index_or ns p [] ≡ a) × (p < length ns)
place-at [] a p e = absurd (none≢some e)
place-at (n ∷ ns) a p e = by_test (same_name a n) (place_among ns a) refl refl p e (place-at ns a)
  where
    by_test : (t : Bool) (o : Option ℕ) → same_name a n ≡ t → place_among ns a ≡ o → (p : ℕ) →
        place_among (n ∷ ns) a ≡ Some p →
        ((q : ℕ) → place_among ns a ≡ Some q → (slice_index_or ns q [] ≡ a) × (q < length ns)) →
        (slice_index_or (n ∷ ns) p [] ≡ a) × (p < length (n ∷ ns))
    by_test true o d f p e later =
        let first : 0 ≡ p = some-injective (sym (ap (λ t. cond t (Some 0) (option_map suc (place_among ns a))) d) ∙
        e) in
        (subst (λ q. slice_index_or (n ∷ ns) q [] ≡ a) first (sym (same-is a n d)), omega (arith, first))
    by_test false None d f p e later =
        absurd (none≢some (sym (ap (λ t. cond t (Some 0) (option_map suc (place_among ns a))) d ∙
        ap (option_map suc) f) ∙ e))
    by_test false (Some q) d f p e later =
        let next : suc q ≡ p = some-injective (sym (ap (λ t. cond t (Some 0) (option_map suc (place_among ns a))) d ∙
        ap (option_map suc) f) ∙ e) in
        let r = later q f in
        (subst (λ j. slice_index_or (n ∷ ns) j [] ≡ a) next r.0, omega (arith, next, r.1))

abbrev pub Within : ℕ → List ℕ → Type 0
Within n row = AllByRecursion (λ p. p < n) row

abbrev pub Named : List Name → List ℕ → List Name → Type 0
Named ns row bs = (map (λ p. slice_index_or ns p []) row ≡ bs) × Within (length ns) row

abbrev kept : List Import → List Name
kept is = map import_name (filter counts is)

row-named : (ns : List Name) (is : List Import) →
    ((b : Name) → is_among (kept is) b ≡ true → is_among ns b ≡ true) → Named ns (places_imported ns is) (kept is)
row-named ns [] there = (refl, tt)
row-named ns (i ∷ is) there = by_test (counts i) refl (row-named ns is)
  where
    by_place : (o : Option ℕ) → place_among ns i.name ≡ o → Named ns (places_imported ns is) (kept is) →
        is_among ns i.name ≡ true → Named ns (put_found (place_among ns i.name) (places_imported ns is))
        (i.name ∷ kept is)
    by_place None d later here = absurd (none≢some (sym d ∙ (there-placed ns i.name here).1))
    by_place (Some p) d later here =
        let at = place-at ns i.name p d in
        subst (λ o. Named ns (put_found o (places_imported ns is)) (i.name ∷ kept is)) (sym d)
        (ap₂ (λ b bs. b ∷ bs) at.0 later.0, (at.1, later.1))

    by_test : (t : Bool) → counts i ≡ t →
        (((b : Name) → is_among (kept is) b ≡ true → is_among ns b ≡ true) → Named ns (places_imported ns is)
        (kept is)) →
        Named ns (places_imported ns (i ∷ is)) (kept (i ∷ is))
    by_test true e further =
        let all = subst (λ t. (b : Name) → is_among (map import_name (cond t (i ∷ filter counts is)
        (filter counts is))) b ≡ true →
        is_among ns b ≡ true) e there in
        subst (λ t. Named ns (put_found (cond t (place_among ns i.name) None) (places_imported ns is))
        (map import_name (cond t (i ∷ filter counts is) (filter counts is)))) (sym e)
        (by_place (place_among ns i.name) refl (further (λ b j. all b (in-tail b i.name (kept is) j)))
        (all i.name (in-head i.name i.name (kept is) refl)))
    by_test false e further =
        let all = subst (λ t. (b : Name) → is_among (map import_name (cond t (i ∷ filter counts is)
        (filter counts is))) b ≡ true →
        is_among ns b ≡ true) e there in
        subst (λ t. Named ns (put_found (cond t (place_among ns i.name) None) (places_imported ns is))
        (map import_name (cond t (i ∷ filter counts is) (filter counts is)))) (sym e) (further all)

-- names that differ lead to their own headers
find-at : (g : Graph) (i : ℕ) (d : Header) → Once (names g) → i < length g →
    find (λ h. same_name h.name (name_at g i)) g ≡ Some (slice_index_or g i d)
find-at [] i d o h = absurd (omega (arith, h))
find-at (k ∷ ks) zero d o h = ap (λ t. cond t (Some k) (find (λ h. same_name h.name k.name) ks)) (same-self k.name)
find-at (k ∷ ks) (suc i) d o h =
    let short : i < length ks = omega (arith, h) in
    by_test (same_name k.name (name_at ks i)) refl (find-at ks i d o.1 short)
    (in-at (names ks) i (omega (arith, short, length-map ks header_name)))
  where
    by_test : (t : Bool) → same_name k.name (name_at ks i) ≡ t →
        find (λ h. same_name h.name (name_at ks i)) ks ≡ Some (slice_index_or ks i d) →
        is_among (names ks) (name_at ks i) ≡ true →
        find (λ h. same_name h.name (name_at (k ∷ ks) (suc i))) (k ∷ ks) ≡ Some (slice_index_or ks i d)
    by_test true e later there =
        absurd (cc (sym o.0 ∙ subst (λ a. is_among (names ks) a ≡ true) (sym (same-is k.name (name_at ks i) e)) there))
    by_test false e later there =
        ap (λ t. cond t (Some k) (find (λ h. same_name h.name (name_at ks i)) ks)) e ∙ later

imports-at : (g : Graph) (i : ℕ) (d : Header) → Once (names g) → i < length g →
    below g (name_at g i) ≡ kept (slice_index_or g i d).imports
imports-at g i d o h = ap (λ k. map import_name (imports_in k)) (find-at g i d o h)

row-at : (f : Header → List ℕ) (g : Graph) (i : ℕ) (d : Header) → i < length g →
    slice_index_or (map f g) i [] ≡ f (slice_index_or g i d)
row-at f [] i d h = absurd (omega (arith, h))
row-at f (k ∷ ks) zero d h = refl
row-at f (k ∷ ks) (suc i) d h = row-at f ks i d (omega (arith, h))

-- the row of a module has the places of those that it imports
pub row-is : (g : Graph) → Closed g → Once (names g) → (i : ℕ) → i < length g →
    Named (names g) (slice_index_or (rows_of g) i []) (below g (name_at g i))
row-is [] closed o i h = absurd (omega (arith, h))
row-is (k ∷ ks) closed o i h =
    let g : Graph = k ∷ ks in
    let header = slice_index_or g i k in
    let there = imports-at g i k o h in
    let named = row-named (names g) header.imports (λ b j. closed (name_at g i) b (subst (λ bs. is_among bs b ≡ true)
    (sym there) j)) in
    subst (λ bs. Named (names g) (slice_index_or (rows_of g) i []) bs) (sym there)
    (subst (λ row. Named (names g) row (kept header.imports)) (sym (row-at (λ h. places_imported
    (names g) h.imports) g i k h)) named)

-- ---- following the imports of a module, by their places
pub within-at : (n : ℕ) (row : List ℕ) (i : ℕ) → Within n row → i < length row → slice_index_or row i 0 < n
within-at n [] i h l = absurd (omega (arith, l))
within-at n (p ∷ row) zero h l = h.0
within-at n (p ∷ row) (suc i) h l = within-at n row i h.1 (omega (arith, l))

named-at : (ns : List Name) (row : List ℕ) (i : ℕ) → i < length row →
    is_among (map (λ p. slice_index_or ns p []) row) (slice_index_or ns (slice_index_or row i 0) []) ≡ true
named-at ns [] i l = absurd (omega (arith, l))
named-at ns (p ∷ row) zero l = in-head (slice_index_or ns p []) (slice_index_or ns p []) _ refl
named-at ns (p ∷ row) (suc i) l =
    in-tail (slice_index_or ns (slice_index_or row i 0) []) (slice_index_or ns p []) _
    (named-at ns row i (omega (arith, l)))

pub at-place : (g : Graph) (p : ℕ) → p < length g → is_among (names g) (name_at g p) ≡ true
at-place g p l = in-at (names g) p (omega (arith, l, length-map g header_name))

pub row-imports : (g : Graph) (row : List ℕ) (a : Name) (i : ℕ) → ArePlaces g row (below g a) → i < length row →
    Imports g a (name_at g (slice_index_or row i 0))
row-imports g row a i named l =
    subst (λ bs. is_among bs (name_at g (slice_index_or row i 0)) ≡ true) named.named (named-at (names g) row i l)

unranked-import : (g : Graph) (row : List ℕ) (a : Name) (i n : ℕ) → ArePlaces g row (below g a) →
    i < length row → rank_within g n (name_at g (slice_index_or row i 0)) ≡ None → rank_within g (suc n) a ≡ None
unranked-import g row a i n named l e =
    one_above-unranked (rank_within g n) (below g a) (name_at g (slice_index_or row i 0))
    (row-imports g row a i named l) e

-- one import without a rank leaves a module without one
pub unranked : (g : Graph) (row : List ℕ) (a : Name) (i : ℕ) → ArePlaces g row (below g a) → i < length row →
    rank g (name_at g (slice_index_or row i 0)) ≡ None → rank g a ≡ None
unranked g row a i named l e = by_rank (rank g a) refl
  where
    by_rank : (o : Option ℕ) → rank g a ≡ o → rank g a ≡ None
    by_rank None d = d
    by_rank (Some r) d =
        absurd (none≢some (sym (unranked-import g row a i (length g) named l e) ∙ one_step_more g (length g) a r d))

pub rank-below : (g : Graph) → Closed g → (p r : ℕ) → p < length g → rank g (name_at g p) ≡ Some r → r < length g
rank-below g closed p r l e = rank-fits g closed (name_at g p) r (at-place g p l) (length g, e)

pub rank-step : (f : ℕ → Option ℕ) (row : List ℕ) (i k n : ℕ) → i < length row →
    one_above (map f (take i row)) ≡ Some k → f (slice_index_or row i 0) ≡ Some n →
    one_above (map f (take (i + 1) row)) ≡ Some (max k (n + 1))
rank-step f row i k n l so next =
    ap (λ ps. one_above (map f ps)) (take_more row i 0 l) ∙
    ap one_above (map-behind f (take i row) (slice_index_or row i 0)) ∙
    ap (λ o. one_above (map f (take i row) ++ o ∷ [])) next ∙ one_above-behind (map f (take i row)) k n so

map-map : (f : Name → Option ℕ) (h : ℕ → Name) (ps : List ℕ) → map f (map h ps) ≡ map (λ p. f (h p)) ps
map-map f h [] = refl
map-map f h (p ∷ ps) = ap (λ os. f (h p) ∷ os) (map-map f h ps)

pub rank-done : (g : Graph) → Closed g → (row : List ℕ) (p r : ℕ) → p < length g →
    ArePlaces g row (below g (name_at g p)) → one_above (map (λ i. rank g (name_at g i)) row) ≡ Some r →
    rank g (name_at g p) ≡ Some r
rank-done g closed row p r l named e =
    rank-of_imports g closed (name_at g p) r (at-place g p l)
    (ap (λ bs. one_above (map (rank g) bs)) (sym named.named) ∙
    ap one_above (map-map (rank g) (name_at g) row) ∙ e)

-- ---- the row of a module in the code's lists
pub mapped : {A : Type 0} (items : A → List ℕ) (rows : List A) (i : ℕ) (d : A) → i < length rows →
    slice_index_or (map items rows) i [] ≡ items (slice_index_or rows i d)
mapped items [] i d l = absurd (omega (arith, l))
mapped items (r ∷ rows) zero d l = refl
mapped items (r ∷ rows) (suc i) d l = mapped items rows i d (omega (arith, l))

abbrev row_of : Graph → Header → List ℕ
row_of g h = places_imported (names g) h.imports

pub row-in : {A : Type 0} (items : A → List ℕ) (rows : List A) (g : Graph) (i : ℕ) (d : A) → map items rows ≡
    rows_of g →
    i < length g → items (slice_index_or rows i d) ≡ slice_index_or (rows_of g) i []
row-in items rows g i d is l =
    let long : length rows ≡ length g =
    sym (length-map rows items) ∙ ap length is ∙ length-map g (row_of g) in
    sym (mapped items rows i d (omega (arith, l, long))) ∙ ap (λ rs. slice_index_or rs i []) is

within-fewer : (n m : ℕ) (row : List ℕ) → n ≡ m → Within n row → Within m row
within-fewer n m row e h = subst (λ k. Within k row) e h

pub row-has_places : {A : Type 0} (items : A → List ℕ) (rows : List A) (g : Graph) (i : ℕ) (d : A) → Closed g →
    Once (names g) → map items rows ≡ rows_of g → i < length g →
    ArePlaces g (items (slice_index_or rows i d)) (below g (name_at g i))
row-has_places items rows g i d closed o is l =
    let r = row-is g closed o i l in
    subst (λ row. ArePlaces g row (below g (name_at g i))) (sym (row-in items rows g i d is l)) (record {
      named = r.0;
      within = within-fewer (length (names g)) (length g) _ (length-map g header_name) r.1;
    })

-- a name among the modules has a place
pub placed : (g : Graph) (a : Name) → is_among (names g) a ≡ true → (p : ℕ) × (p < length g) × (name_at g p ≡ a)
placed g a i =
    let p = there-placed (names g) a i in
    let at = place-at (names g) a p.0 p.1 in
    (p.0, omega (arith, at.1, length-map g header_name), at.0)
