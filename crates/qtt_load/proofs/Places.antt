-- Each ring that is told has its place.
use Rattle.std.proofs.Common.{◌≡◌, ◌<◌, ◌≤◌, ◌-◌, ℕ, zero, suc, Bool, true, false, ◌||◌, cond, List, [], ◌∷◌, ◌++◌, map, length, Option, Some, None, refl, sym, ap, ◌∙◌, subst, ◌⊎◌, inl, inr, slice_index_or, take, drop, arith}
use Rattle.std.specs.Prelude.{filter, find, flat_map, option_map}
use Rattle.std.specs.Option.{option_or, IsSome}
use Rattle.std.proofs.lemmas.Bool.{or_cases}
use Rattle.std.proofs.lemmas.List.{take_all}
use Rattle.std.proofs.lemmas.List.Concat.{flat_map-cons}
use Rattle.qtt_syntax.specs.declared.module.Import.{Import}
use Rattle.qtt_graph.specs.Graph.{Name, Graph, same_name, is_among, import_name, imports_of, below, names, in_byte_order}
use Rattle.qtt_graph.specs.Ring.{first_of, ways, way_back, back, first_ring, second, import_place}
use Rattle.qtt_diag.specs.Kept.{Detail}
use Rattle.qtt_load.specs.Loading.{refusal}
use Rattle.qtt_load.specs.Order.{ring_refusal}
use Rattle.qtt_load.specs.Laws.{RingsHavePlaces}
use Rattle.qtt_load.proofs.Known.{same-self, same-turned, true≢false}

-- ---- the place of an import
imported-found : (is : List Import) (b : Name) → is_among (map import_name is) b ≡ true →
    IsSome (find (λ (i : Import). same_name i.name b) is)
imported-found [] b e = absurd (cc e)
imported-found (i ∷ is) b e =
    by_test (imported-found is b) (same_name i.name b) refl
    (or_cases (same_name b i.name) (is_among (map import_name is) b) e)
  where
    by_test : (is_among (map import_name is) b ≡ true → IsSome (find (λ (i : Import). same_name i.name b) is)) →
        (t : Bool) → same_name i.name b ≡ t →
        (same_name b i.name ≡ true) ⊎ (is_among (map import_name is) b ≡ true) →
        IsSome (cond t (Some i) (find (λ (i : Import). same_name i.name b) is))
    by_test later true d c = refl
    by_test later false d (inl same) = absurd (true≢false (same-turned b i.name same) d)
    by_test later false d (inr among) = later among

mapped-some : {A B : Type 0} (f : A → B) (o : Option A) → IsSome o → IsSome (option_map f o)
mapped-some f None s = absurd (cc s)
mapped-some f (Some a) s = refl

-- a module that imports another has a place where it does
imported-placed : (g : Graph) (a b : Name) → is_among (below g a) b ≡ true → IsSome (import_place g a b)
imported-placed g a b e =
    mapped-some (λ (i : Import). i.span) (find (λ (i : Import). same_name i.name b) (imports_of g a))
    (imported-found (imports_of g a) b e)

-- ---- the module to which a way leads first
-- a way from a to b begins with a, which imports what stands there next
record Begins (g : Graph) (a b : Name) (way : List Name) : Type 0 where
  more : List Name
  is : way ≡ a ∷ more
  imports : is_among (below g a) (second b more) ≡ true

one-listed : (a b : Name) (ns way : List Name) →
    first_of (map (λ (c : Name). a ∷ []) (filter (same_name b) ns)) ≡ Some way →
    (is_among ns b ≡ true) × (way ≡ a ∷ [])
one-listed a b [] way e = absurd (cc e)
one-listed a b (n ∷ ns) way e = by_test (one-listed a b ns way) (same_name b n) e
  where
    by_test : (first_of (map (λ (c : Name). a ∷ []) (filter (same_name b) ns)) ≡ Some way →
        (is_among ns b ≡ true) × (way ≡ a ∷ [])) → (t : Bool) →
        first_of (map (λ (c : Name). a ∷ []) (cond t (n ∷ filter (same_name b) ns) (filter (same_name b) ns))) ≡
        Some way → ((t || is_among ns b) ≡ true) × (way ≡ a ∷ [])
    by_test later true d = (refl, sym (cc d))
    by_test later false d = later d

record FirstOf (h : Name → List (List Name)) (ns : List Name) (way : List Name) : Type 0 where
  name : Name
  among : is_among ns name ≡ true
  first : first_of (h name) ≡ Some way

all-listed : (h : Name → List (List Name)) (ns way : List Name) → first_of (flat_map h ns) ≡ Some way →
    FirstOf h ns way
all-listed h [] way e = absurd (cc e)
all-listed h (n ∷ ns) way e =
    by_first (all-listed h ns way) (h n) refl (sym (ap first_of (flat_map-cons h n ns)) ∙ e)
  where
    by_first : (first_of (flat_map h ns) ≡ Some way → FirstOf h ns way) → (ws : List (List Name)) → h n ≡ ws →
        first_of (ws ++ flat_map h ns) ≡ Some way → FirstOf h (n ∷ ns) way
    by_first later [] is d =
        let f = later d in
        record { name = f.name; among = or-behind f.name f.among; first = f.first }
      where
        or-behind : (a : Name) → is_among ns a ≡ true → is_among (n ∷ ns) a ≡ true
        or-behind a i = by_head (same_name a n)
          where
            by_head : (t : Bool) → (t || is_among ns a) ≡ true
            by_head true = refl
            by_head false = i
    by_first later (w ∷ ws) is d =
        record { name = n; among = ap (λ t. t || is_among ns n) (same-self n); first = ap first_of is ∙ d }

first-mapped : (a : Name) (ws : List (List Name)) (way : List Name) →
    first_of (map (λ (w : List Name). a ∷ w) ws) ≡ Some way → (w : List Name) × (first_of ws ≡ Some w) × (way ≡ a ∷ w)
first-mapped a [] way e = absurd (cc e)
first-mapped a (w ∷ ws) way e = (w, refl, sym (cc e))

begins : (g : Graph) (n : ℕ) (a b : Name) (way : List Name) → first_of (ways g n a b) ≡ Some way → Begins g a b way
begins g zero a b way e =
    let l = one-listed a b (below g a) way e in
    record { more = []; is = l.1; imports = l.0 }
begins g (suc n) a b way e =
    let m = first-mapped a (flat_map (λ c. ways g n c b) (below g a)) way e in
    let l = all-listed (λ c. ways g n c b) (below g a) m.0 m.1 in
    let later = begins g n l.name b m.0 l.first in
    record {
      more = m.0;
      is = m.2;
      imports = ap (λ w. is_among (below g a) (second b w)) later.is ∙ l.among;
    }

-- ---- the ring
back-begins : (g : Graph) (k n : ℕ) (a : Name) (way : List Name) → way_back g k n a ≡ Some way → Begins g a a way
back-begins g k zero a way e = absurd (cc e)
back-begins g k (suc n) a way e = by_first (back-begins g (suc k) n a way) (first_of (ways g k a a)) refl e
  where
    by_first : (way_back g (suc k) n a ≡ Some way → Begins g a a way) → (o : Option (List Name)) →
        first_of (ways g k a a) ≡ o → option_or o (way_back g (suc k) n a) ≡ Some way → Begins g a a way
    by_first later None is d = later d
    by_first later (Some w) is d = begins g k a a way (is ∙ d)

ring-begins : (g : Graph) (ns way : List Name) → first_ring g ns ≡ Some way → (a : Name) × Begins g a a way
ring-begins g [] way e = absurd (cc e)
ring-begins g (a ∷ more) way e = by_back (ring-begins g more way) (back g a) refl e
  where
    by_back : (first_ring g more ≡ Some way → (b : Name) × Begins g b b way) → (o : Option (List Name)) →
        back g a ≡ o → option_or o (first_ring g more) ≡ Some way → (b : Name) × Begins g b b way
    by_back later None is d = later d
    by_back later (Some w) is d = (a, back-begins g 0 (length g) a way (is ∙ d))

begins-placed : (g : Graph) (a : Name) (way : List Name) → Begins g a a way → IsSome (ring_refusal g way)
begins-placed g a way b =
    subst (λ w. IsSome (ring_refusal g w)) (sym b.is)
    (mapped-some (λ s. refusal a s (Detail.cycle (a ∷ b.more))) (import_place g a (second a b.more))
    (imported-placed g a (second a b.more) b.imports))

pub rings-have-places : RingsHavePlaces
rings-have-places g way is = let b = ring-begins g (in_byte_order (names g)) way is in begins-placed g b.0 way b.1

-- ---- the ring in code
pub no-empty-ring : (g : Graph) (way : List Name) → length way < 1 → IsSome (ring_refusal g way) → ⊥
no-empty-ring g [] few s = absurd (cc s)
no-empty-ring g (a ∷ more) few s = absurd (omega arith)

mapped-none : {A B : Type 0} (f : A → B) (o : Option A) → o ≡ None → IsSome (option_map f o) → ⊥
mapped-none f None e s = absurd (cc s)
mapped-none f (Some a) e s = absurd (cc e)

pub no-ring-unplaced : (g : Graph) (way : List Name) (a b : Name) → 1 ≤ length way →
    a ≡ slice_index_or way 0 a → b ≡ second a (take (length way - 1) (drop 1 way)) → import_place g a b ≡ None →
    IsSome (ring_refusal g way) → ⊥
no-ring-unplaced g [] a b some first next none s = absurd (omega arith)
no-ring-unplaced g (c ∷ more) a b some first next none s =
    let rest : take (length (c ∷ more) - 1) more ≡ more = take_all (length (c ∷ more) - 1) more (omega arith) in
    let is : b ≡ second c more = next ∙ ap (second a) rest ∙ ap (λ (n : Name). second n more) first in
    mapped-none (λ s. refusal c s (Detail.cycle (c ∷ more))) (import_place g c (second c more))
    (ap (import_place g c) (sym is) ∙ ap (λ (n : Name). import_place g n b) (sym first) ∙ none) s
