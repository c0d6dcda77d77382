-- Ways go on from the modules that are one import nearer.
use Rattle.std.proofs.Common.{◌≡◌, ℕ, zero, suc, ◌≤◌, ◌<◌, Bool, true, false, ◌||◌, cond, List, [], ◌∷◌, ◌++◌, map, length, slice_index_or, Option, Some, None, refl, sym, ap, ◌∙◌, subst, ◌⊎◌, inl, inr, arith}
use Rattle.std.specs.Prelude.{◌==◌, filter, find, flat_map, is_some}
use Rattle.std.specs.List.{AllByRecursion}
use Rattle.std.proofs.lemmas.Bool.{cases_eq, eqb-true, eq-eqb, ne_eqb}
use Rattle.std.proofs.lemmas.List.{length-map}
use Rattle.std.proofs.lemmas.List.Concat.{flat_map-cons}
use Rattle.qtt_graph.specs.Graph.{Name, Graph, header_name, below, names, same_name, is_among}
use Rattle.qtt_graph.specs.Ring.{Imports, first_of, ways}
use Rattle.qtt_graph.specs.Modules.{name_at, ArePlaces}
use Rattle.qtt_graph.specs.Near.{HasWay, is_at, goes_on_from}
use Rattle.qtt_graph.proofs.Among.{none≢some, some-injective, same-is, in-head, in-tail, Once}
use Rattle.qtt_graph.proofs.NamePlaces.{in-at}
use Rattle.qtt_graph.proofs.Following.{Within}
use Rattle.qtt_graph.proofs.Rings.{First, first-map, map-first, first-of_all, of_all-first, one-way, way-one}

-- ---- the first way is there
pub way-first : (ws : List (List Name)) → is_some (first_of ws) ≡ true → First ws
way-first [] e = absurd (cc e)
way-first (w ∷ ws) e = (w, refl)

pub first-way : (ws : List (List Name)) → First ws → is_some (first_of ws) ≡ true
first-way [] p = absurd (none≢some p.1)
first-way (w ∷ ws) p = refl

-- one import more
pub way-on : (g : Graph) (k : ℕ) (a c b : Name) → Imports g a c → HasWay g k c b → HasWay g (suc k) a b
way-on g k a c b i w =
    first-way _ (first-map (λ way. a ∷ way) _
    (first-of_all (λ d. ways g k d b) c (below g a) i (way-first _ w)))

pub way-next : (g : Graph) (k : ℕ) (a b : Name) → HasWay g (suc k) a b → (c : Name) × Imports g a c × HasWay g k c b
way-next g k a b w =
    let n = of_all-first (λ d. ways g k d b) (below g a) (map-first (λ way. a ∷ way) _ (way-first _ w)) in
    (n.0, n.1, first-way _ n.2)

-- ---- a list that is searched, and what its elements lead to
all-none : (test : ℕ → Bool) (row : List ℕ) → find test row ≡ None → AllByRecursion (λ p. test p ≡ false) row
all-none test [] e = tt
all-none test (p ∷ row) e = by_test (test p) refl (all-none test row)
  where
    by_test : (t : Bool) → test p ≡ t → (find test row ≡ None → AllByRecursion (λ p. test p ≡ false) row) →
        AllByRecursion (λ p. test p ≡ false) (p ∷ row)
    by_test true d later = absurd (none≢some (sym e ∙ ap (λ t. cond t (Some p) (find test row)) d))
    by_test false d later = (d, later (sym (ap (λ t. cond t (Some p) (find test row)) d) ∙ e))

nothing-first : (h : ℕ → List (List Name)) (row : List ℕ) → AllByRecursion (λ p. is_some (first_of (h p)) ≡ false) row →
    is_some (first_of (flat_map h row)) ≡ false
nothing-first h [] a = refl
nothing-first h (p ∷ row) a =
    ap (λ ws. is_some (first_of ws)) (flat_map-cons h p row) ∙ behind (h p) a.0 (nothing-first h row a.1)
  where
    behind : (ws : List (List Name)) → is_some (first_of ws) ≡ false → is_some (first_of (flat_map h row)) ≡ false →
        is_some (first_of (ws ++ flat_map h row)) ≡ false
    behind [] n later = later
    behind (w ∷ ws) n later = absurd (cc n)

abbrev Tells : (ℕ → List (List Name)) → (ℕ → Bool) → List ℕ → Type 0
Tells h test row = AllByRecursion (λ p. test p ≡ is_some (first_of (h p))) row

found-first : (h : ℕ → List (List Name)) (test : ℕ → Bool) (row : List ℕ) (d : ℕ) → Tells h test row →
    find test row ≡ Some d → (first_of (flat_map h row) ≡ first_of (h d)) × (test d ≡ true)
found-first h test [] d tells e = absurd (none≢some e)
found-first h test (p ∷ row) d tells e = by_test (test p) refl (found-first h test row d tells.1)
  where
    left : (ws : List (List Name)) → is_some (first_of ws) ≡ true →
        first_of (ws ++ flat_map h row) ≡ first_of ws
    left [] s = absurd (cc s)
    left (w ∷ ws) s = refl

    right : (ws : List (List Name)) → is_some (first_of ws) ≡ false →
        first_of (ws ++ flat_map h row) ≡ first_of (flat_map h row)
    right [] s = refl
    right (w ∷ ws) s = absurd (cc s)

    by_test : (t : Bool) → test p ≡ t →
        (find test row ≡ Some d → (first_of (flat_map h row) ≡ first_of (h d)) × (test d ≡ true)) →
        (first_of (flat_map h (p ∷ row)) ≡ first_of (h d)) × (test d ≡ true)
    by_test true f later =
        let same : p ≡ d = some-injective (sym (ap (λ t. cond t (Some p) (find test row)) f) ∙ e) in (
          ap first_of (flat_map-cons h p row) ∙ left (h p) (sym tells.0 ∙ f) ∙ ap (λ q. first_of (h q)) same,
          subst (λ q. test q ≡ true) same f,
        )
    by_test false f later =
        let rest = later (sym (ap (λ t. cond t (Some p) (find test row)) f) ∙ e) in
        (ap first_of (flat_map-cons h p row) ∙ right (h p) (sym tells.0 ∙ f) ∙ rest.0, rest.1)

flat-named : (h : Name → List (List Name)) (name : ℕ → Name) (row : List ℕ) →
    flat_map h (map name row) ≡ flat_map (λ p. h (name p)) row
flat-named h name [] = refl
flat-named h name (p ∷ row) =
    flat_map-cons h (name p) (map name row) ∙ ap (λ ws. h (name p) ++ ws) (flat-named h name row) ∙
    sym (flat_map-cons (λ p. h (name p)) p row)

told-none : (h : ℕ → List (List Name)) (test : ℕ → Bool) (row : List ℕ) → Tells h test row →
    AllByRecursion (λ p. test p ≡ false) row → AllByRecursion (λ p. is_some (first_of (h p)) ≡ false) row
told-none h test [] tells n = tt
told-none h test (p ∷ row) tells n = (sym tells.0 ∙ n.0, told-none h test row tells.1 n.1)

-- ---- what is known of nearness while ways of n + 1 imports are looked for
pub record Known (g : Graph) (b : Name) (n : ℕ) (near : List (Option ℕ)) : Type 0 where
  pub there : (i k : ℕ) (o : Option ℕ) → i < length g → slice_index_or near i o ≡ Some k → HasWay g k (name_at g i) b
  pub least : (i k : ℕ) (o : Option ℕ) → i < length g → k < n → HasWay g k (name_at g i) b →
      (j : ℕ) × (j ≤ k) × (slice_index_or near i o ≡ Some j)

abbrev pub NoneShorter : Graph → Name → ℕ → Name → Type 0
NoneShorter g b n c = (j : ℕ) → j < n → HasWay g j c b → ⊥

tells-one : (g : Graph) (b : Name) (m : ℕ) (near : List (Option ℕ)) (c : Name) (p : ℕ) → Known g b (suc m) near →
    NoneShorter g b (suc m) c → Imports g c (name_at g p) → p < length g →
    is_at m (slice_index_or near p None) ≡ is_some (first_of (ways g m (name_at g p) b))
tells-one g b m near c p known none i l = by_value (slice_index_or near p None) refl
  where
    not-way : (slice_index_or near p None ≡ Some m → ⊥) → is_some (first_of (ways g m (name_at g p) b)) ≡ false
    not-way other = by_way (is_some (first_of (ways g m (name_at g p) b))) refl
      where
        by_way : (t : Bool) → is_some (first_of (ways g m (name_at g p) b)) ≡ t →
            is_some (first_of (ways g m (name_at g p) b)) ≡ false
        by_way false e = e
        by_way true e = by_least (known.least p m None l (omega arith) e)
          where
            by_least : (j : ℕ) × (j ≤ m) × (slice_index_or near p None ≡ Some j) →
                is_some (first_of (ways g m (name_at g p) b)) ≡ false
            by_least (j, low, is) = by_order (cases_eq j m)
              where
                by_order : (j ≡ m) ⊎ (j ≡ m → ⊥) → is_some (first_of (ways g m (name_at g p) b)) ≡ false
                by_order (inl same) = absurd (other (is ∙ ap Some same))
                by_order (inr less) =
                    absurd (none (suc j) (omega (arith, low, less))
                    (way-on g j c (name_at g p) b i (known.there p j None l is)))

    by_value : (o : Option ℕ) → slice_index_or near p None ≡ o →
        is_at m (slice_index_or near p None) ≡ is_some (first_of (ways g m (name_at g p) b))
    by_value None e = ap (is_at m) e ∙ sym (not-way (λ d. none≢some (sym e ∙ d)))
    by_value (Some j) e = by_order (cases_eq j m)
      where
        by_order : (j ≡ m) ⊎ (j ≡ m → ⊥) →
            is_at m (slice_index_or near p None) ≡ is_some (first_of (ways g m (name_at g p) b))
        by_order (inl same) =
            ap (is_at m) e ∙ eq-eqb j m same ∙ sym (known.there p m None l (e ∙ ap Some same))
        by_order (inr other) =
            ap (is_at m) e ∙ ne_eqb j m other ∙ sym (not-way (λ d. other (some-injective (sym e ∙ d))))

-- ---- the next module of a way
all-mapped : (name : ℕ → Name) (row : List ℕ) → AllByRecursion (λ p. is_among (map name row) (name p) ≡ true) row
all-mapped name [] = tt
all-mapped name (p ∷ row) =
    (in-head (name p) (name p) (map name row) refl, wider row (all-mapped name row))
  where
    wider : (qs : List ℕ) → AllByRecursion (λ q. is_among (map name row) (name q) ≡ true) qs →
        AllByRecursion (λ q. is_among (map name (p ∷ row)) (name q) ≡ true) qs
    wider [] a = tt
    wider (q ∷ qs) a = (in-tail (name q) (name p) (map name row) a.0, wider qs a.1)

pub all-imported : (g : Graph) (row : List ℕ) (c : Name) → ArePlaces g row (below g c) →
    AllByRecursion (λ p. Imports g c (name_at g p)) row
all-imported g row c places =
    subst (λ bs. AllByRecursion (λ p. is_among bs (name_at g p) ≡ true) row) places.named (all-mapped (name_at g) row)

tells-all : (g : Graph) (b : Name) (m t : ℕ) (near : List (Option ℕ)) (c : Name) (row : List ℕ) →
    Known g b (suc m) near → NoneShorter g b (suc m) c → AllByRecursion (λ p. Imports g c (name_at g p)) row →
    Within (length g) row → Tells (λ p. ways g m (name_at g p) b) (goes_on_from near t (suc m)) row
tells-all g b m t near c [] known none i l = tt
tells-all g b m t near c (p ∷ row) known none i l =
    (tells-one g b m near c p known none i.0 l.0, tells-all g b m t near c row known none i.1 l.1)

mapped-first : (a : Name) (ws : List (List Name)) (w : List Name) → first_of ws ≡ Some w →
    first_of (map (λ way. a ∷ way) ws) ≡ Some (a ∷ w)
mapped-first a [] w e = absurd (none≢some e)
mapped-first a (v ∷ ws) w e = ap (λ v. Some (a ∷ v)) (some-injective e)

no-map : (a : Name) (ws : List (List Name)) → is_some (first_of ws) ≡ false →
    is_some (first_of (map (λ way. a ∷ way) ws)) ≡ false
no-map a [] e = refl
no-map a (w ∷ ws) e = absurd (cc e)

-- names that differ stand at one place each
pub one-place : (ns : List Name) (i j : ℕ) → Once ns → i < length ns → j < length ns →
    slice_index_or ns i [] ≡ slice_index_or ns j [] → i ≡ j
one-place [] i j o l k e = absurd (omega (arith, l))
one-place (n ∷ ns) zero zero o l k e = refl
one-place (n ∷ ns) zero (suc j) o l k e =
    absurd (cc (sym o.0 ∙ subst (λ a. is_among ns a ≡ true) (sym e) (in-at ns j (omega (arith, k)))))
one-place (n ∷ ns) (suc i) zero o l k e =
    absurd (cc (sym o.0 ∙ subst (λ a. is_among ns a ≡ true) e (in-at ns i (omega (arith, l)))))
one-place (n ∷ ns) (suc i) (suc j) o l k e =
    ap suc (one-place ns i j o.1 (omega (arith, l)) (omega (arith, k)) e)

found-at : (t : ℕ) (row : List ℕ) (d : ℕ) → find (λ p. p == t) row ≡ Some d → d ≡ t
found-at t [] d e = absurd (none≢some e)
found-at t (p ∷ row) d e = by_test (p == t) refl (found-at t row d)
  where
    by_test : (b : Bool) → (p == t) ≡ b → (find (λ p. p == t) row ≡ Some d → d ≡ t) → d ≡ t
    by_test true f later =
        sym (some-injective (sym (ap (λ b. cond b (Some p) (find (λ p. p == t) row)) f) ∙ e)) ∙ eqb-true p t f
    by_test false f later = later (sym (ap (λ b. cond b (Some p) (find (λ p. p == t) row)) f) ∙ e)

among-row : (g : Graph) (t : ℕ) (row : List ℕ) → Once (names g) → t < length g → Within (length g) row →
    is_among (map (name_at g) row) (name_at g t) ≡ true → find (λ p. p == t) row ≡ None → ⊥
among-row g t [] o l w i e = cc i
among-row g t (p ∷ row) o l w i e = by_test (p == t) refl (among-row g t row o l w.1)
  where
    long : length (names g) ≡ length g
    long = length-map g header_name

    by_name : (s : Bool) → same_name (name_at g t) (name_at g p) ≡ s → (p == t) ≡ false →
        (is_among (map (name_at g) row) (name_at g t) ≡ true → find (λ p. p == t) row ≡ None → ⊥) → find
        (λ p. p == t) row ≡ None → ⊥
    by_name true s f later n =
        let same = one-place (names g) t p o (omega (arith, l, long)) (omega (arith, w.0, long)) (same-is _ _ s) in
        absurd (cc (sym f ∙ eq-eqb p t (sym same)))
    by_name false s f later n =
        later (subst (λ b. (b || is_among (map (name_at g) row) (name_at g t)) ≡ true) s i) n

    by_test : (b : Bool) → (p == t) ≡ b →
        (is_among (map (name_at g) row) (name_at g t) ≡ true → find (λ p. p == t) row ≡ None → ⊥) → ⊥
    by_test true f later = none≢some (sym e ∙ ap (λ b. cond b (Some p) (find (λ p. p == t) row)) f)
    by_test false f later =
        by_name (same_name (name_at g t) (name_at g p)) refl f later
        (sym (ap (λ b. cond b (Some p) (find (λ p. p == t) row)) f) ∙ e)

in-row : (t : ℕ) (row : List ℕ) (d : ℕ) (test : ℕ → Bool) (P : ℕ → Type 0) → AllByRecursion P row →
    find test row ≡ Some d → P d
in-row t [] d test P a e = absurd (none≢some e)
in-row t (p ∷ row) d test P a e = by_test (test p) refl (in-row t row d test P a.1)
  where
    by_test : (b : Bool) → test p ≡ b → (find test row ≡ Some d → P d) → P d
    by_test true f later =
        subst P (some-injective (sym (ap (λ b. cond b (Some p) (find test row)) f) ∙ e)) a.0
    by_test false f later = later (sym (ap (λ b. cond b (Some p) (find test row)) f) ∙ e)

single-first : (a b : Name) (ns : List Name) (w : List Name) →
    first_of (map (λ c. a ∷ []) (filter (same_name b) ns)) ≡ Some w → w ≡ a ∷ []
single-first a b ns w e = by_list (filter (same_name b) ns) e
  where
    by_list : (ms : List Name) → first_of (map (λ (c : Name). a ∷ []) ms) ≡ Some w → w ≡ a ∷ []
    by_list [] e = absurd (none≢some e)
    by_list (m ∷ ms) e = sym (some-injective e)

pub at-value : (m : ℕ) (o : Option ℕ) → is_at m o ≡ true → o ≡ Some m
at-value m None e = absurd (cc e)
at-value m (Some j) e = ap Some (eqb-true j m e)

-- where no module is found no way of so many imports leads on
pub none-goes-on : (g : Graph) (t n : ℕ) (near : List (Option ℕ)) (c : Name) (row : List ℕ) → Once (names g) →
    t < length g → Known g (name_at g t) n near → NoneShorter g (name_at g t) n c → ArePlaces g row (below g c) →
    find (goes_on_from near t n) row ≡ None → HasWay g n c (name_at g t) → ⊥
none-goes-on g t zero near c row o l known none places e w =
    among-row g t row o l places.within
    (subst (λ bs. is_among bs (name_at g t) ≡ true) (sym places.named)
    (way-one c (name_at g t) (below g c) (way-first _ w)))
    e
none-goes-on g t (suc m) near c row o l known none places e w =
    let tells = tells-all g (name_at g t) m t near c row known none (all-imported g row c places) places.within in
    let nothing = nothing-first (λ p. ways g m (name_at g p) (name_at g t)) row
    (told-none _ (goes_on_from near t (suc m)) row tells (all-none (goes_on_from near t (suc m)) row e)) in
    let same = ap (λ bs. flat_map (λ d. ways g m d (name_at g t)) bs) (sym places.named) ∙
    flat-named (λ d. ways g m d (name_at g t)) (name_at g) row in
    cc (sym w ∙ no-map c (flat_map (λ d. ways g m d (name_at g t)) (below g c))
    (ap (λ ws. is_some (first_of ws)) same ∙ nothing))

-- the module that is found is the next one of the first way
pub record GoesOn (g : Graph) (t n : ℕ) (near : List (Option ℕ)) (c : Name) (d : ℕ) : Type 0 where
  pub way : HasWay g n c (name_at g t)
  pub last : n ≡ 0 → first_of (ways g n c (name_at g t)) ≡ Some (c ∷ [])
  pub within : d < length g
  pub next : (m : ℕ) → n ≡ suc m → slice_index_or near d None ≡ Some m
  pub rest : (m : ℕ) (w : List Name) → n ≡ suc m → first_of (ways g m (name_at g d) (name_at g t)) ≡ Some w →
      first_of (ways g n c (name_at g t)) ≡ Some (c ∷ w)

pub one-goes-on : (g : Graph) (t n : ℕ) (near : List (Option ℕ)) (c : Name) (row : List ℕ) (d : ℕ) → Once (names g) →
    t < length g → Known g (name_at g t) n near → NoneShorter g (name_at g t) n c → ArePlaces g row (below g c) →
    find (goes_on_from near t n) row ≡ Some d → GoesOn g t n near c d
one-goes-on g t zero near c row d o l known none places e =
    let is = found-at t row d e in
    let imports = in-row t row d (λ p. p == t) (λ p. Imports g c (name_at g p)) (all-imported g row c places) e in
    let first = one-way c (name_at g t) (below g c) (subst (λ q. Imports g c (name_at g q)) is imports) in
    record {
      way = first-way _ first;
      last = λ z. first.1 ∙ ap Some (single-first c (name_at g t) (below g c) first.0 first.1);
      within = in-row t row d (λ p. p == t) (λ p. p < length g) places.within e;
      next = λ m z. absurd (omega (arith, z));
      rest = λ m w z. absurd (omega (arith, z));
    }
one-goes-on g t (suc m) near c row d o l known none places e =
    let b = name_at g t in
    let test = goes_on_from near t (suc m) in
    let within = in-row t row d test (λ p. p < length g) places.within e in
    let imports = in-row t row d test (λ p. Imports g c (name_at g p)) (all-imported g row c places) e in
    let tells = tells-all g b m t near c row known none (all-imported g row c places) places.within in
    let found = found-first (λ p. ways g m (name_at g p) b) test row d tells e in
    let at = at-value m (slice_index_or near d None) found.1 in
    let same = ap (λ bs. flat_map (λ q. ways g m q b) bs) (sym places.named) ∙
    flat-named (λ q. ways g m q b) (name_at g) row in
    record {
      way = way-on g m c (name_at g d) b imports (known.there d m None within at);
      last = λ z. absurd (omega (arith, z));
      within = within;
      next = λ k z. at ∙ ap Some (omega (arith, z));
      rest = λ k w z f.
          let is : m ≡ k = omega (arith, z) in
          mapped-first c (flat_map (λ q. ways g m q b) (below g c)) w
          (ap first_of same ∙ found.0 ∙ subst (λ j. first_of (ways g j (name_at g d) b) ≡ Some w) (sym is) f);
    }
