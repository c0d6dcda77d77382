-- A ring is told exactly where a module leads to itself.
use Rattle.std.proofs.Common.{◌≡◌, ℕ, zero, suc, ◌+◌, ◌≤◌, ◌<◌, Bool, true, false, ◌||◌, cond, List, [], ◌∷◌, ◌++◌, map, length, Option, Some, None, refl, sym, ap, ◌∙◌, subst, ◌⊎◌, inl, inr, arith}
use Rattle.std.specs.Prelude.{filter, find, flat_map}
use Rattle.std.specs.Option.{option_or}
use Rattle.std.proofs.lemmas.Bool.{cases_eq}
use Rattle.std.proofs.lemmas.List.{length-map}
use Rattle.std.proofs.lemmas.List.Concat.{flat_map-cons}
use Rattle.qtt_graph.specs.Graph.{Name, Header, Graph, header_name, import_name, imports_in, below, names, same_name, is_among, in_front, inserted, in_byte_order}
use Rattle.qtt_graph.specs.Ring.{Imports, Leads, first_of, ways, way_back, first_ring, ring}
use Rattle.qtt_graph.specs.Ring.Leads.{by_import, onward}
use Rattle.qtt_graph.specs.Laws.{RingsAreTold}
use Rattle.qtt_graph.proofs.Among.{none≢some, same-is, in-head, in-tail, in-cases, Once, AllAmong, once-fits}

-- ---- ways as lists of what they pass
abbrev pub Way : Graph → Name → List Name → Name → Type 0
Way g a [] b = Imports g a b
Way g a (c ∷ cs) b = Imports g a c × Way g c cs b

way_of : (g : Graph) {a b : Name} → Leads g a b → (cs : List Name) × Way g a cs b
way_of g (by_import i) = ([], i)
way_of g (onward {b = c} i l) = let w = way_of g l in (c ∷ w.0, (i, w.1))

-- from where a way passes a module, it is a way from there
abbrev Shortcut : Graph → Name → Name → Type 0
Shortcut g a b = (ds : List Name) × Way g a ds b × Once (a ∷ ds)

from_here : (g : Graph) (a b c : Name) (cs : List Name) → Way g c cs b → Once (c ∷ cs) → a ≡ c → Shortcut g a b
from_here g a b c cs w o e = (cs, subst (λ d. Way g d cs b) (sym e) w, subst (λ d. Once (d ∷ cs)) (sym e) o)

from_where : (g : Graph) (a b c : Name) (cs : List Name) → Way g c cs b → Once (c ∷ cs) →
    is_among (c ∷ cs) a ≡ true → Shortcut g a b
from_where g a b c [] w o i = by_case (in-cases a c [] i)
  where
    by_case : (a ≡ c) ⊎ (is_among [] a ≡ true) → Shortcut g a b
    by_case (inl e) = from_here g a b c [] w o e
    by_case (inr later) = absurd (cc later)
from_where g a b c (d ∷ ds) w o i = by_case (from_where g a b d ds w.1 o.1) (in-cases a c (d ∷ ds) i)
  where
    by_case : (is_among (d ∷ ds) a ≡ true → Shortcut g a b) → (a ≡ c) ⊎ (is_among (d ∷ ds) a ≡ true) → Shortcut g a b
    by_case further (inl e) = from_here g a b c (d ∷ ds) w o e
    by_case further (inr later) = further later

-- a way that passes no module twice
shortest : (g : Graph) (a b : Name) (cs : List Name) → Way g a cs b → Shortcut g a b
shortest g a b [] w = ([], w, (refl, tt))
shortest g a b (c ∷ cs) w = by_rest (shortest g c b cs w.1)
  where
    by_test : (ds : List Name) → Way g c ds b → Once (c ∷ ds) → (t : Bool) → is_among (c ∷ ds) a ≡ t →
        Shortcut g a b
    by_test ds v o true e = from_where g a b c ds v o e
    by_test ds v o false e = (c ∷ ds, (w.0, v), (e, o))

    by_rest : Shortcut g c b → Shortcut g a b
    by_rest (ds, v, o) = by_test ds v o (is_among (c ∷ ds) a) refl

-- ---- what imports is a module
abbrev header_in : Graph → Name → Option Header
header_in g a = find (λ h. same_name h.name a) g

abbrev ImportsThere : Graph → Name → Name → Type 0
ImportsThere g a b = is_among (map import_name (imports_in (header_in g a))) b ≡ true

named : (g : Graph) (a b : Name) → ImportsThere g a b → is_among (names g) a ≡ true
named [] a b i = absurd (cc i)
named (h ∷ hs) a b i = by_test (named hs a b) (same_name h.name a) refl
  where
    by_test : (ImportsThere hs a b → is_among (names hs) a ≡ true) → (t : Bool) → same_name h.name a ≡ t → is_among
        (names (h ∷ hs)) a ≡ true
    by_test later true e = in-head a h.name (names hs) (sym (same-is h.name a e))
    by_test later false e =
        in-tail a h.name (names hs)
        (later (subst (λ t. is_among (map import_name (imports_in (cond t (Some h) (header_in hs a)))) b ≡ true) e i))

pub importer_is_named : (g : Graph) (a b : Name) → Imports g a b → is_among (names g) a ≡ true
importer_is_named g a b i = named g a b i

way_is_named : (g : Graph) (a b : Name) (cs : List Name) → Way g a cs b → AllAmong (names g) (a ∷ cs)
way_is_named g a b [] w = (importer_is_named g a b w, tt)
way_is_named g a b (c ∷ cs) w = (importer_is_named g a c w.0, way_is_named g c b cs w.1)

-- ---- the first of a list
abbrev pub First : List (List Name) → Type 0
First ws = (w : List Name) × (first_of ws ≡ Some w)

pub first-map : (f : List Name → List Name) (ws : List (List Name)) → First ws → First (map f ws)
first-map f [] p = absurd (none≢some p.1)
first-map f (w ∷ ws) p = (f w, refl)

pub map-first : (f : List Name → List Name) (ws : List (List Name)) → First (map f ws) → First ws
map-first f [] p = absurd (none≢some p.1)
map-first f (w ∷ ws) p = (w, refl)

first-left : (us vs : List (List Name)) → First us → First (us ++ vs)
first-left [] vs p = absurd (none≢some p.1)
first-left (u ∷ us) vs p = (u, refl)

first-right : (us vs : List (List Name)) → First vs → First (us ++ vs)
first-right [] vs p = p
first-right (u ∷ us) vs p = (u, refl)

first-parts : (us vs : List (List Name)) → First (us ++ vs) → First us ⊎ First vs
first-parts [] vs p = inr p
first-parts (u ∷ us) vs p = inl (u, refl)

pub first-of_all : (h : Name → List (List Name)) (c : Name) (ns : List Name) → is_among ns c ≡ true → First (h c) →
    First (flat_map h ns)
first-of_all h c [] i p = absurd (cc i)
first-of_all h c (n ∷ ns) i p =
    subst First (sym (flat_map-cons h n ns)) (by_case (λ j. first-of_all h c ns j p) (in-cases c n ns i))
  where
    by_case : (is_among ns c ≡ true → First (flat_map h ns)) → (c ≡ n) ⊎ (is_among ns c ≡ true) → First
        (h n ++ flat_map h ns)
    by_case further (inl e) = first-left (h n) (flat_map h ns) (subst (λ d. First (h d)) e p)
    by_case further (inr later) = first-right (h n) (flat_map h ns) (further later)

abbrev pub FirstOfOne : (Name → List (List Name)) → List Name → Type 0
FirstOfOne h ns = (c : Name) × (is_among ns c ≡ true) × First (h c)

pub of_all-first : (h : Name → List (List Name)) (ns : List Name) → First (flat_map h ns) → FirstOfOne h ns
of_all-first h [] p = absurd (none≢some p.1)
of_all-first h (n ∷ ns) p =
    by_part (of_all-first h ns) (first-parts (h n) (flat_map h ns) (subst First (flat_map-cons h n ns) p))
  where
    by_part : (First (flat_map h ns) → FirstOfOne h ns) → First (h n) ⊎ First (flat_map h ns) → FirstOfOne h (n ∷ ns)
    by_part further (inl q) = (n, in-head n n ns refl, q)
    by_part further (inr q) = let r = further q in (r.0, in-tail r.0 n ns r.1, r.2)

abbrev pub single : Name → List Name → List (List Name)
single a = map (λ c. a ∷ [])

pub one-way : (a b : Name) (ns : List Name) → is_among ns b ≡ true → First (single a (filter (same_name b) ns))
one-way a b [] i = absurd (cc i)
one-way a b (n ∷ ns) i = by_test (one-way a b ns) (same_name b n) refl
  where
    by_test : (is_among ns b ≡ true → First (single a (filter (same_name b) ns))) → (t : Bool) → same_name b n ≡ t →
        First (single a (filter (same_name b) (n ∷ ns)))
    by_test later true e =
        subst (λ t. First (single a (cond t (n ∷ filter (same_name b) ns) (filter (same_name b) ns)))) (sym e)
        (a ∷ [], refl)
    by_test later false e =
        subst (λ t. First (single a (cond t (n ∷ filter (same_name b) ns) (filter (same_name b) ns)))) (sym e)
        (later (subst (λ t. (t || is_among ns b) ≡ true) e i))

pub way-one : (a b : Name) (ns : List Name) → First (single a (filter (same_name b) ns)) → is_among ns b ≡ true
way-one a b [] p = absurd (none≢some p.1)
way-one a b (n ∷ ns) p = by_test (way-one a b ns) (same_name b n) refl
  where
    by_test : (First (single a (filter (same_name b) ns)) → is_among ns b ≡ true) → (t : Bool) → same_name b n ≡ t →
        is_among (n ∷ ns) b ≡ true
    by_test later true e = in-head b n ns (same-is b n e)
    by_test later false e =
        in-tail b n ns (later
        (subst (λ t. First (single a (cond t (n ∷ filter (same_name b) ns) (filter (same_name b) ns)))) e p))

-- ---- ways that are listed
pub listed : (g : Graph) (a b : Name) (cs : List Name) → Way g a cs b → First (ways g (length cs) a b)
listed g a b [] w = one-way a b (below g a) w
listed g a b (c ∷ cs) w =
    first-map (λ way. a ∷ way) (flat_map (λ d. ways g (length cs) d b) (below g a))
    (first-of_all (λ d. ways g (length cs) d b) c (below g a) w.0 (listed g c b cs w.1))

listed-leads : (g : Graph) (n : ℕ) (a b : Name) → First (ways g n a b) → Leads g a b
listed-leads g zero a b p = by_import (way-one a b (below g a) p)
listed-leads g (suc n) a b p =
    let q = of_all-first (λ d. ways g n d b) (below g a) (map-first (λ way. a ∷ way) _ p) in
    onward q.1 (listed-leads g n q.0 b q.2)

-- ---- the ring
pub back-leads : (g : Graph) (k n : ℕ) (a : Name) (w : List Name) → way_back g k n a ≡ Some w → Leads g a a
back-leads g k zero a w e = absurd (none≢some e)
back-leads g k (suc n) a w e = by_first (back-leads g (suc k) n a w) (first_of (ways g k a a)) refl
  where
    by_first : (way_back g (suc k) n a ≡ Some w → Leads g a a) → (o : Option (List Name)) → first_of (ways g k a a) ≡
        o → Leads g a a
    by_first later (Some v) d = listed-leads g k a a (v, d)
    by_first later None d =
        later (sym (ap (λ o. option_or o (way_back g (suc k) n a)) d) ∙ e)

ring-leads : (g : Graph) (ns : List Name) (w : List Name) → first_ring g ns ≡ Some w → (a : Name) × Leads g a a
ring-leads g [] w e = absurd (none≢some e)
ring-leads g (a ∷ more) w e = by_back (ring-leads g more w) (way_back g 0 (length g) a) refl
  where
    by_back : (first_ring g more ≡ Some w → (b : Name) × Leads g b b) → (o : Option (List Name)) → way_back g 0
        (length g) a ≡ o → (b : Name) × Leads g b b
    by_back later (Some v) d = (a, back-leads g 0 (length g) a v d)
    by_back later None d = later (sym (ap (λ o. option_or o (first_ring g more)) d) ∙ e)

abbrev Back : Graph → ℕ → ℕ → Name → Type 0
Back g k n a = (w : List Name) × (way_back g k n a ≡ Some w)

back-found : (g : Graph) (k n m : ℕ) (a : Name) → k ≤ m → m < k + n → First (ways g m a a) → Back g k n a
back-found g k zero m a low high p = absurd (omega (arith, low, high))
back-found g k (suc n) m a low high p =
    by_first (λ l h. back-found g (suc k) n m a l h p) (first_of (ways g k a a)) refl (cases_eq k m)
  where
    by_first : (suc k ≤ m → m < suc k + n → Back g (suc k) n a) → (o : Option (List Name)) →
        first_of (ways g k a a) ≡ o → (k ≡ m) ⊎ (k ≡ m → ⊥) → Back g k (suc n) a
    by_first further (Some w) d c = (w, ap (λ o. option_or o (way_back g (suc k) n a)) d)
    by_first further None d (inl e) =
        absurd (none≢some (sym d ∙ subst (λ j. first_of (ways g j a a) ≡ Some p.0) (sym e) p.1))
    by_first further None d (inr h) =
        let rest = further (omega (arith, low, h)) (omega (arith, high)) in
        (rest.0, ap (λ o. option_or o (way_back g (suc k) n a)) d ∙ rest.1)

ring-found : (g : Graph) (ns : List Name) (a : Name) (w : List Name) → is_among ns a ≡ true →
    way_back g 0 (length g) a ≡ Some w → (v : List Name) × (first_ring g ns ≡ Some v)
ring-found g [] a w i e = absurd (cc i)
ring-found g (b ∷ more) a w i e =
    by_back (λ j. ring-found g more a w j e) (way_back g 0 (length g) b) refl (in-cases a b more i)
  where
    by_back : (is_among more a ≡ true → (v : List Name) × (first_ring g more ≡ Some v)) → (o : Option (List Name)) →
        way_back g 0 (length g) b ≡ o → (a ≡ b) ⊎ (is_among more a ≡ true) →
        (v : List Name) × (first_ring g (b ∷ more) ≡ Some v)
    by_back further (Some v) d c = (v, ap (λ o. option_or o (first_ring g more)) d)
    by_back further None d (inl same) = absurd (none≢some (sym d ∙ subst (λ c. way_back g 0 (length g) c ≡
        Some w) same e))
    by_back further None d (inr later) =
        let rest = further later in
        (rest.0, ap (λ o. option_or o (first_ring g more)) d ∙ rest.1)

among-inserted : (a b : Name) (ns : List Name) → is_among (b ∷ ns) a ≡ true → is_among (inserted b ns) a ≡ true
among-inserted a b [] i = i
among-inserted a b (n ∷ ns) i =
    by_test (among-inserted a b ns) (in_front b n) refl (in-cases a b (n ∷ ns) i)
  where
    deeper : (is_among (b ∷ ns) a ≡ true → is_among (inserted b ns) a ≡ true) →
        (a ≡ n) ⊎ (is_among ns a ≡ true) → is_among (n ∷ inserted b ns) a ≡ true
    deeper further (inl e) = in-head a n (inserted b ns) e
    deeper further (inr j) = in-tail a n (inserted b ns) (further (in-tail a b ns j))

    later : (is_among (b ∷ ns) a ≡ true → is_among (inserted b ns) a ≡ true) →
        (a ≡ b) ⊎ (is_among (n ∷ ns) a ≡ true) → is_among (n ∷ inserted b ns) a ≡ true
    later further (inl e) = in-tail a n (inserted b ns) (further (in-head a b ns e))
    later further (inr j) = deeper further (in-cases a n ns j)

    by_test : (is_among (b ∷ ns) a ≡ true → is_among (inserted b ns) a ≡ true) → (t : Bool) → in_front b n ≡ t →
        (a ≡ b) ⊎ (is_among (n ∷ ns) a ≡ true) → is_among (inserted b (n ∷ ns)) a ≡ true
    by_test further true e c = subst (λ t. is_among (cond t (b ∷ n ∷ ns) (n ∷ inserted b ns)) a ≡ true) (sym e) i
    by_test further false e c =
        subst (λ t. is_among (cond t (b ∷ n ∷ ns) (n ∷ inserted b ns)) a ≡ true) (sym e) (later further c)

pub among-in_order : (a : Name) (ns : List Name) → is_among ns a ≡ true → is_among (in_byte_order ns) a ≡ true
among-in_order a [] i = i
among-in_order a (n ∷ ns) i =
    among-inserted a n (in_byte_order ns) (by_case (among-in_order a ns) (in-cases a n ns i))
  where
    by_case : (is_among ns a ≡ true → is_among (in_byte_order ns) a ≡ true) → (a ≡ n) ⊎ (is_among ns a ≡ true) →
        is_among (n ∷ in_byte_order ns) a ≡ true
    by_case further (inl e) = in-head a n (in_byte_order ns) e
    by_case further (inr j) = in-tail a n (in_byte_order ns) (further j)

pub leads-found : (g : Graph) (a : Name) → Leads g a a → (w : List Name) × (ring g ≡ Some w)
leads-found g a l = by_way (shortest g a a _ (way_of g l).1)
  where
    by_way : (cs : List Name) × Way g a cs a × Once (a ∷ cs) → (w : List Name) × (ring g ≡ Some w)
    by_way (cs, way, o) =
        let named = way_is_named g a a cs way in
        let fits = once-fits (a ∷ cs) (names g) o named in
        let many : length (names g) ≡ length g = length-map g header_name in
        let back = back-found g 0 (length g) (length cs) a (omega arith) (omega (arith, fits, many))
        (listed g a a cs way) in
        ring-found g (in_byte_order (names g)) a back.0 (among-in_order a (names g) named.0) back.1

pub rings_are_told : RingsAreTold
rings_are_told g = (λ none a l. none≢some (sym none ∙ (leads-found g a l).1), λ h. by_ring h (ring g) refl)
  where
    by_ring : ((a : Name) → Leads g a a → ⊥) → (o : Option (List Name)) → ring g ≡ o → ring g ≡ None
    by_ring h None e = e
    by_ring h (Some w) e = let l = ring-leads g (in_byte_order (names g)) w e in absurd (h l.0 l.1)
