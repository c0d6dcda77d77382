-- A map from names to places holds the modules in byte order.
use Rattle.std.proofs.Common.{◌≡◌, ℕ, suc, Bool, true, false, ◌||◌, cond, List, [], ◌∷◌, map, slice_get, Option, Some, None, refl, sym, ap, ◌∙◌, subst, Bor, Ordering, Less, Equal, Greater}
use Rattle.std.specs.Prelude.{option_map, unwrap_or}
use Rattle.std.specs.Ordering.{nat_cmp, is_eq}
use Rattle.std.specs.List.{AllByRecursion}
use Rattle.std.specs.List.Sorted.{IsStrictlySortedBy}
use Rattle.std.specs.Cmp.Lexicographic.{slice_cmp, on_texts}
use Rattle.std.specs.Map.{lookup}
use Rattle.std.specs.BTreeMap as tree
use Rattle.std.proofs.lemmas.Map.Entries.{btree_map_get_place}
use mathlib.Core.Path.{ap₂}
use Rattle.qtt_graph.specs.Graph.{Name, Graph, names, same_name, is_among, in_byte_order}
use Rattle.qtt_graph.specs.Ranks.{place_among, place}
use Rattle.qtt_graph.specs.Modules.{order_of}
use Rattle.qtt_graph.proofs.Among.{none≢some, same-is, in-head, in-tail, Once}
use Rattle.qtt_graph.proofs.Order.{compared, equal-is, Ascends, Within, in_order-among, in_order-ascends, ascending-is-one}
use Rattle.qtt_graph.proofs.Rings.{among-in_order}

abbrev Entry : Type 0
Entry = Bor (List ℕ) × ℕ

abbrev entry_name : Entry → Name
entry_name e = e.0.now

abbrev entry_value : Entry → ℕ
entry_value e = e.1

abbrev by_bytes : Bor (List ℕ) → Bor (List ℕ) → Ordering
by_bytes x y = slice_cmp nat_cmp x.now y.now

-- ---- the names in order
all-ascend : (a : Bor (List ℕ)) (ks : List (Bor (List ℕ))) → AllByRecursion (λ k. by_bytes a k ≡ Less) ks →
    AllByRecursion (λ b. compared a.now b ≡ Less) (map (λ k. k.now) ks)
all-ascend a [] h = tt
all-ascend a (k ∷ ks) h = (h.0, all-ascend a ks h.1)

ascend : (ks : List (Bor (List ℕ))) → IsStrictlySortedBy by_bytes ks → Ascends (map (λ k. k.now) ks)
unfolding IsStrictlySortedBy
ascend [] h = tt
ascend (k ∷ ks) h = (all-ascend k ks h.0, ascend ks h.1)

all-by-index : {A : Type 0} (P : A → Type 0) (xs : List A) → ((i : ℕ) (x : A) → slice_get xs i ≡ Some x → P x) →
    AllByRecursion P xs
all-by-index P [] h = tt
all-by-index P (x ∷ xs) h = (h 0 x refl, all-by-index P xs (λ i y e. h (suc i) y e))

abbrev Told : List Name → Entry → Type 0
Told ns e = place_among ns (entry_name e) ≡ Some (entry_value e)

told : (ns : List Name) (m : tree.BTreeMap (Bor (List ℕ)) ℕ) → tree.IsOrdered by_bytes m →
    ((q : Name) → tree.get_by (λ k. slice_cmp nat_cmp q k.now) m ≡ place_among ns q) →
    AllByRecursion (Told ns) m.entries
told ns m ordered found =
    all-by-index (Told ns) m.entries (λ i e h.
    sym (found (entry_name e)) ∙ btree_map_get_place (on_texts (λ k. k.now)) m i e.0 e.1 ordered h)

-- ---- what has a place is there
pub place-there : (ns : List Name) (a : Name) (p : ℕ) → place_among ns a ≡ Some p → is_among ns a ≡ true
place-there [] a p e = absurd (none≢some e)
place-there (n ∷ ns) a p e = by_test (same_name a n) (place_among ns a) refl refl (place-there ns a)
  where
    by_test : (t : Bool) (o : Option ℕ) → same_name a n ≡ t → place_among ns a ≡ o →
        ((p : ℕ) → place_among ns a ≡ Some p → is_among ns a ≡ true) → is_among (n ∷ ns) a ≡ true
    by_test true o d f later = in-head a n ns (same-is a n d)
    by_test false (Some k) d f later = in-tail a n ns (later k f)
    by_test false None d f later =
        absurd (none≢some (sym (ap (λ t. cond t (Some 0) (option_map suc (place_among ns a))) d ∙
        ap (option_map suc) f) ∙ e))

pub there-placed : (ns : List Name) (a : Name) → is_among ns a ≡ true → (p : ℕ) × (place_among ns a ≡ Some p)
there-placed [] a i = absurd (cc i)
there-placed (n ∷ ns) a i = by_test (same_name a n) refl (there-placed ns a)
  where
    by_test : (t : Bool) → same_name a n ≡ t → (is_among ns a ≡ true → (p : ℕ) × (place_among ns a ≡ Some p)) →
        (p : ℕ) × (place_among (n ∷ ns) a ≡ Some p)
    by_test true d later = (0, ap (λ t. cond t (Some 0) (option_map suc (place_among ns a))) d)
    by_test false d later =
        let r = later (subst (λ t. (t || is_among ns a) ≡ true) d i) in
        (suc r.0, ap (λ t. cond t (Some 0) (option_map suc (place_among ns a))) d ∙ ap (option_map suc) r.1)

-- ---- the same names
entries-within : (ns : List Name) (es : List Entry) → AllByRecursion (Told ns) es → Within (map entry_name es) ns
entries-within ns [] h q i = absurd (cc i)
entries-within ns (e ∷ es) h q i = by_test (same_name q (entry_name e)) refl (entries-within ns es h.1 q)
  where
    by_test : (t : Bool) → same_name q (entry_name e) ≡ t →
        (is_among (map entry_name es) q ≡ true → is_among ns q ≡ true) → is_among ns q ≡ true
    by_test true d later =
        subst (λ a. is_among ns a ≡ true) (sym (same-is q (entry_name e) d))
        (place-there ns (entry_name e) (entry_value e) h.0)
    by_test false d later = later (subst (λ t. (t || is_among (map entry_name es) q) ≡ true) d i)

looked-up : (q : Name) (es : List Entry) (p : ℕ) →
    lookup (λ k. is_eq (slice_cmp nat_cmp q k.now)) es ≡ Some p → is_among (map entry_name es) q ≡ true
looked-up q [] p e = absurd (none≢some e)
looked-up q (x ∷ es) p e = by_order (slice_cmp nat_cmp q (entry_name x)) refl (looked-up q es p)
  where
    passed : (o : Ordering) → slice_cmp nat_cmp q (entry_name x) ≡ o →
        cond (is_eq o) (Some (entry_value x)) (lookup (λ k. is_eq (slice_cmp nat_cmp q k.now)) es) ≡ Some p
    passed o d = subst (λ r. cond (is_eq r) (Some (entry_value x)) (lookup (λ k. is_eq
        (slice_cmp nat_cmp q k.now)) es) ≡ Some p) d e

    by_order : (o : Ordering) → slice_cmp nat_cmp q (entry_name x) ≡ o →
        (lookup (λ k. is_eq (slice_cmp nat_cmp q k.now)) es ≡ Some p → is_among (map entry_name es) q ≡ true) →
        is_among (map entry_name (x ∷ es)) q ≡ true
    by_order Equal d later = in-head q (entry_name x) (map entry_name es) (equal-is q (entry_name x) d)
    by_order Less d later = in-tail q (entry_name x) (map entry_name es) (later (passed Less d))
    by_order Greater d later = in-tail q (entry_name x) (map entry_name es) (later (passed Greater d))

values-placed : (ns : List Name) (es : List Entry) → AllByRecursion (Told ns) es →
    map entry_value es ≡ map (λ a. unwrap_or (place_among ns a) 0) (map entry_name es)
values-placed ns [] h = refl
values-placed ns (e ∷ es) h =
    ap₂ (λ p ps. p ∷ ps) (sym (ap (λ o. unwrap_or o 0) h.0)) (values-placed ns es h.1)

keys-named : (es : List Entry) → map (λ k. k.now) (map (λ (e : Entry). e.0) es) ≡ map entry_name es
keys-named [] = refl
keys-named (e ∷ es) = ap (λ ns. entry_name e ∷ ns) (keys-named es)

pub values-in-order : (g : Graph) (m : tree.BTreeMap (Bor (List ℕ)) ℕ) → Once (names g) →
    tree.IsOrdered by_bytes m →
    ((q : Name) → tree.get_by (λ k. slice_cmp nat_cmp q k.now) m ≡ place_among (names g) q) →
    tree.values m ≡ order_of g
values-in-order g m o ordered found =
    let all = told (names g) m ordered found in
    let up = subst Ascends (keys-named m.entries) (ascend (tree.keys m) ordered) in
    let one =
    ascending-is-one (map entry_name m.entries) (in_byte_order (names g)) up (in_order-ascends (names g) o)
    (λ q i. among-in_order q (names g) (entries-within (names g) m.entries all q i))
    (λ q i.
    let p = there-placed (names g) q (in_order-among q (names g) i) in
    looked-up q m.entries p.0 (found q ∙ p.1)) in
    values-placed (names g) m.entries all ∙ ap (map (place g)) one
