-- Places of names among others.
use Rattle.std.proofs.Common.{◌≡◌, ℕ, zero, suc, ◌+◌, ◌<◌, Bool, true, false, ◌||◌, cond, List, [], ◌∷◌, ◌++◌, map, length, take, slice_index_or, Option, Some, None, refl, sym, ap, ◌∙◌, subst, arith, Bor}
use Rattle.std.specs.Prelude.{option_map, is_some, not, ◌&&◌, codes}
use Rattle.std.specs.Str.{bytes_eq}
use Rattle.std.proofs.lemmas.List.{take_more, length-take}
use Rattle.std.proofs.lemmas.Bool.{and_parts, not-true}
use Rattle.std.specs.Option.{option_or, option_copied}
use Rattle.std.specs.List.{list_all}
use Rattle.qtt_syntax.specs.declared.module.ModuleText.{ModuleText}
use Rattle.qtt_graph.specs.Graph.{Name, Header, names, same_name, is_among, is_there, all_there, all_differ}
use Rattle.qtt_syntax.specs.declared.module.Import.{Import}
use Rattle.qtt_graph.specs.Modules.{graph_of, put_found, place_imported, places_imported, rows_of}
use Rattle.qtt_graph.specs.Ranks.{place_among}
use Rattle.qtt_graph.proofs.Among.{same-is, same-as, in-head, in-tail, Once}

same-flip : (a b : Name) → same_name a b ≡ false → same_name b a ≡ false
same-flip a b e = by_test (same_name b a) refl
  where
    by_test : (t : Bool) → same_name b a ≡ t → same_name b a ≡ false
    by_test false d = d
    by_test true d = absurd (cc (sym e ∙ same-as a b (sym (same-is b a d))))

or-nothing : (o : Option ℕ) → option_or o None ≡ o
or-nothing None = refl
or-nothing (Some n) = refl

-- behind others a name has a place of its own where none of them is it
pub place-behind : (ns : List Name) (n a : Name) →
    place_among (ns ++ n ∷ []) a ≡ option_or (place_among ns a) (cond (same_name a n) (Some (length ns)) None)
place-behind [] n a = refl
place-behind (m ∷ ns) n a = by_test (same_name a m) (place_among ns a) (place-behind ns n a)
  where
    later : (o : Option ℕ) (t : Bool) → option_map suc (option_or o (cond t (Some (length ns)) None)) ≡
        option_or (option_map suc o) (cond t (Some (suc (length ns))) None)
    later (Some k) t = refl
    later None true = refl
    later None false = refl

    by_test : (t : Bool) (o : Option ℕ) →
        place_among (ns ++ n ∷ []) a ≡ option_or o (cond (same_name a n) (Some (length ns)) None) →
        cond t (Some 0) (option_map suc (place_among (ns ++ n ∷ []) a)) ≡
        option_or (cond t (Some 0) (option_map suc o)) (cond (same_name a n) (Some (suc (length ns))) None)
    by_test true o e = refl
    by_test false o e = ap (option_map suc) e ∙ later o (same_name a n)

-- ---- names that differ
pub once : (ns : List Name) → all_differ ns ≡ true → Once ns
once [] d = tt
once (n ∷ ns) d =
    let parts = and_parts _ _ d in
    (not-true (is_among ns n) parts.0, once ns parts.1)

pub in-at : (ns : List Name) (i : ℕ) → i < length ns → is_among ns (slice_index_or ns i []) ≡ true
in-at [] i h = absurd (omega (arith, h))
in-at (n ∷ ns) zero h = in-head n n ns refl
in-at (n ∷ ns) (suc i) h = in-tail (slice_index_or ns i []) n ns (in-at ns i (omega (arith, h)))

-- a name that stands there already changes no place
pub place-kept : (ns : List Name) (i : ℕ) (n q : Name) (old : Option ℕ) → i < length ns → n ≡ slice_index_or ns i [] →
    is_some (place_among (take i ns) n) ≡ true → old ≡ place_among (take i ns) q → old ≡ place_among (take (i + 1) ns) q
place-kept ns i n q old h named there before =
    before ∙ by_test (same_name q (slice_index_or ns i [])) refl ∙
    sym (ap (λ ms. place_among ms q) (take_more ns i [] h) ∙ place-behind (take i ns) (slice_index_or ns i []) q)
  where
    or-there : (o p : Option ℕ) → is_some o ≡ true → o ≡ option_or o p
    or-there None p e = absurd (cc e)
    or-there (Some k) p e = refl

    by_test : (t : Bool) → same_name q (slice_index_or ns i []) ≡ t → place_among (take i ns) q ≡
        option_or (place_among (take i ns) q) (cond (same_name q (slice_index_or ns i [])) (Some (length
        (take i ns))) None)
    by_test true e =
        or-there _ _ (subst (λ a. is_some (place_among (take i ns) a) ≡ true)
        (named ∙ sym (same-is q (slice_index_or ns i []) e)) there)
    by_test false e =
        sym (or-nothing (place_among (take i ns) q)) ∙
        sym (ap (λ t. option_or (place_among (take i ns) q) (cond t (Some (length (take i ns))) None)) e)

-- a new name takes the next place
pub place-new : (ns : List Name) (i : ℕ) (n q : Name) (old new : Option ℕ) → i < length ns → n ≡
    slice_index_or ns i [] →
    is_some (place_among (take i ns) n) ≡ false → old ≡ place_among (take i ns) q →
    new ≡ cond (bytes_eq n q) (Some i) old → new ≡ place_among (take (i + 1) ns) q
place-new ns i n q old new h named absent before after =
    after ∙ by_test (bytes_eq n q) refl ∙
    sym (ap (λ ms. place_among ms q) (take_more ns i [] h) ∙ place-behind (take i ns) (slice_index_or ns i []) q)
  where
    long : length (take i ns) ≡ i
    long = omega (arith, length-take i ns, h)

    nothing : (o : Option ℕ) → is_some o ≡ false → o ≡ None
    nothing None e = refl
    nothing (Some k) e = absurd (cc e)

    by_test : (t : Bool) → bytes_eq n q ≡ t → cond (bytes_eq n q) (Some i) old ≡
        option_or (place_among (take i ns) q) (cond (same_name q (slice_index_or ns i [])) (Some (length
        (take i ns))) None)
    by_test true e =
        let same = same-is n q e in
        let front = subst (λ a. place_among (take i ns) a ≡ None) same (nothing _ absent) in
        let here = same-as q (slice_index_or ns i []) (sym same ∙ named) in
        ap (λ t. cond t (Some i) old) e ∙ ap Some (sym long) ∙
        sym (ap (λ o. option_or o (cond (same_name q (slice_index_or ns i [])) (Some (length
        (take i ns))) None)) front ∙
        ap (λ t. cond t (Some (length (take i ns))) None) here)
    by_test false e =
        let differ = same-flip n q e in
        let other = subst (λ a. same_name q a ≡ false) named differ in
        ap (λ t. cond t (Some i) old) e ∙ before ∙ sym (or-nothing (place_among (take i ns) q)) ∙
        sym (ap (λ t. option_or (place_among (take i ns) q) (cond t (Some (length (take i ns))) None)) other)

-- ---- whether names differ, as they are met
among-behind : (ns : List Name) (n a : Name) → is_among (ns ++ n ∷ []) a ≡ (is_among ns a || same_name a n)
among-behind [] n a = or-false (same_name a n)
  where
    or-false : (t : Bool) → (t || false) ≡ (false || t)
    or-false true = refl
    or-false false = refl
among-behind (m ∷ ns) n a = by_test (same_name a m) (among-behind ns n a)
  where
    by_test : (t : Bool) → is_among (ns ++ n ∷ []) a ≡ (is_among ns a || same_name a n) →
        (t || is_among (ns ++ n ∷ []) a) ≡ ((t || is_among ns a) || same_name a n)
    by_test true e = refl
    by_test false e = e

pub differ-behind : (ns : List Name) (n : Name) → all_differ (ns ++ n ∷ []) ≡ (all_differ ns && not (is_among ns n))
differ-behind [] n = refl
differ-behind (m ∷ ns) n =
    ap (λ t. not t && all_differ (ns ++ n ∷ [])) (among-behind ns n m) ∙
    by_tests (is_among ns m) (same_name m n) (same_name n m) (flips m n) (differ-behind ns n)
  where
    flips : (a b : Name) → same_name a b ≡ same_name b a
    flips a b = by_test (same_name a b) refl
      where
        by_test : (t : Bool) → same_name a b ≡ t → same_name a b ≡ same_name b a
        by_test true e = e ∙ sym (same-as b a (sym (same-is a b e)))
        by_test false e = e ∙ sym (same-flip a b e)

    and-false : (t : Bool) → (t && false) ≡ false
    and-false true = refl
    and-false false = refl

    by_tests : (there one other : Bool) → one ≡ other →
        all_differ (ns ++ n ∷ []) ≡ (all_differ ns && not (is_among ns n)) →
        (not (there || one) && all_differ (ns ++ n ∷ [])) ≡
        ((not there && all_differ ns) && not (other || is_among ns n))
    by_tests true one other same e = refl
    by_tests false true other same e =
        sym (ap (λ t. all_differ ns && not (t || is_among ns n)) (sym same) ∙ and-false (all_differ ns))
    by_tests false false other same e = e ∙ ap (λ t. all_differ ns && not (t || is_among ns n)) same

pub placed-is_among : (ns : List Name) (a : Name) → is_some (place_among ns a) ≡ is_among ns a
placed-is_among [] a = refl
placed-is_among (n ∷ ns) a = by_test (same_name a n) (placed-is_among ns a)
  where
    kept : (o : Option ℕ) → is_some (option_map suc o) ≡ is_some o
    kept None = refl
    kept (Some k) = refl

    by_test : (t : Bool) → is_some (place_among ns a) ≡ is_among ns a →
        is_some (cond t (Some 0) (option_map suc (place_among ns a))) ≡ (t || is_among ns a)
    by_test true e = refl
    by_test false e = kept (place_among ns a) ∙ e

-- one name more, which stood there already or not
pub differ-step : (ns : List Name) (i : ℕ) (n : Name) (told : Bool) → i < length ns → n ≡ slice_index_or ns i [] →
    told ≡ all_differ (take i ns) →
    (told && not (is_some (place_among (take i ns) n))) ≡ all_differ (take (i + 1) ns)
differ-step ns i n told h named is =
    ap (λ t. t && not (is_some (place_among (take i ns) n))) is ∙
    ap (λ t. all_differ (take i ns) && not t) (placed-is_among (take i ns) n) ∙
    sym (ap all_differ (take_more ns i [] h ∙ ap (λ a. take i ns ++ a ∷ []) (sym named)) ∙
    differ-behind (take i ns) n)

pub differ-there : (ns : List Name) (i : ℕ) (n : Name) (told : Bool) → i < length ns → n ≡ slice_index_or ns i [] →
    told ≡ all_differ (take i ns) → is_some (place_among (take i ns) n) ≡ true → false ≡ all_differ (take (i + 1) ns)
differ-there ns i n told h named is there =
    sym (ap (λ t. told && not t) there ∙ and-false told) ∙ differ-step ns i n told h named is
  where
    and-false : (t : Bool) → (t && false) ≡ false
    and-false true = refl
    and-false false = refl

pub differ-new : (ns : List Name) (i : ℕ) (n : Name) (told : Bool) → i < length ns → n ≡ slice_index_or ns i [] →
    told ≡ all_differ (take i ns) → is_some (place_among (take i ns) n) ≡ false → told ≡ all_differ (take (i + 1) ns)
differ-new ns i n told h named is absent =
    sym (ap (λ t. told && not t) absent ∙ and-true told) ∙ differ-step ns i n told h named is
  where
    and-true : (t : Bool) → (t && true) ≡ t
    and-true true = refl
    and-true false = refl

-- an import that is not of Prim is there where it has a place
pub there-is : (ns : List Name) (i : Import) → same_name i.name (codes "Prim") ≡ false →
    is_some (place_imported ns i) ≡ is_there ns i
there-is ns i e =
    ap (λ t. is_some (cond (not t) (place_among ns i.name) None)) e ∙ placed-is_among ns i.name ∙
    sym (ap (λ t. cond (not t) (is_among ns i.name) true) e)

pub some-copied : (o : Option (Bor ℕ)) → is_some o ≡ is_some (option_copied o)
some-copied None = refl
some-copied (Some n) = refl

-- ---- each import is there
pub all-there-behind : (ts : List ModuleText) (ns : List Name) →
    list_all (λ (h : Header). all_there ns h.imports) (graph_of ts) ≡
    list_all (λ (t : ModuleText). all_there ns t.imports.items) ts
all-there-behind [] ns = refl
all-there-behind (t ∷ ts) ns = ap (λ b. all_there ns t.imports.items && b) (all-there-behind ts ns)

-- ---- texts and their names
pub name-there : (ts : List ModuleText) (i : ℕ) (d : ModuleText) → i < length ts →
    slice_index_or (names (graph_of ts)) i [] ≡ (slice_index_or ts i d).name
name-there [] i d h = absurd (omega (arith, h))
name-there (t ∷ ts) zero d h = refl
name-there (t ∷ ts) (suc i) d h = name-there ts i d (omega (arith, h))

pub names-length : (ts : List ModuleText) → length (names (graph_of ts)) ≡ length ts
names-length [] = refl
names-length (t ∷ ts) = ap suc (names-length ts)

-- ---- imports in turn
put_behind : (o : Option ℕ) (ps qs : List ℕ) → put_found o ps ++ qs ≡ put_found o (ps ++ qs)
put_behind None ps qs = refl
put_behind (Some p) ps qs = refl

imported-behind : (ns : List Name) (is js : List Import) →
    places_imported ns (is ++ js) ≡ places_imported ns is ++ places_imported ns js
imported-behind ns [] js = refl
imported-behind ns (i ∷ is) js =
    ap (put_found (place_imported ns i)) (imported-behind ns is js) ∙
    sym (put_behind (place_imported ns i) (places_imported ns is) (places_imported ns js))

pub imports-step : (ns : List Name) (is : List Import) (k : ℕ) (d : Import) → k < length is →
    places_imported ns (take (k + 1) is) ≡
    places_imported ns (take k is) ++ put_found (place_imported ns (slice_index_or is k d)) []
imports-step ns is k d h =
    ap (places_imported ns) (take_more is k d h) ∙ imported-behind ns (take k is) (slice_index_or is k d ∷ [])

-- a row with the next import's place, if it has one
pub row-step : (ns : List Name) (is : List Import) (k : ℕ) (i : Import) (o : Option ℕ) (before after : List ℕ) →
    k < length is → i ≡ slice_index_or is k i → before ≡ places_imported ns (take k is) → o ≡ place_imported ns i →
    after ≡ before ++ put_found o [] → after ≡ places_imported ns (take (k + 1) is)
row-step ns is k i o before after h there so found e =
    e ∙ ap (λ ps. ps ++ put_found o []) so ∙
    ap (λ p. places_imported ns (take k is) ++ put_found p []) (found ∙ ap (place_imported ns) there) ∙
    sym (imports-step ns is k i h)

-- ---- rows of texts in turn
row-there : (ns : List Name) (ts : List ModuleText) (i : ℕ) (d : ModuleText) → i < length ts →
    slice_index_or (map (λ (h : Header). places_imported ns h.imports) (graph_of ts)) i [] ≡
    places_imported ns (slice_index_or ts i d).imports.items
row-there ns [] i d h = absurd (omega (arith, h))
row-there ns (t ∷ ts) zero d h = refl
row-there ns (t ∷ ts) (suc i) d h = row-there ns ts i d (omega (arith, h))

pub map-behind : {A B : Type 0} (f : A → B) (xs : List A) (y : A) → map f (xs ++ y ∷ []) ≡ map f xs ++ f y ∷ []
map-behind f [] y = refl
map-behind f (x ∷ xs) y = ap (λ zs. f x ∷ zs) (map-behind f xs y)

rows-length : (ns : List Name) (ts : List ModuleText) →
    length (map (λ (h : Header). places_imported ns h.imports) (graph_of ts)) ≡ length ts
rows-length ns [] = refl
rows-length ns (t ∷ ts) = ap suc (rows-length ns ts)

-- rows with that of the next text
pub rows-step : {A : Type 0} (items : A → List ℕ) (ts : List ModuleText) (i : ℕ) (t : ModuleText) (before : List A)
    (after : List A) (row : A) → i < length ts → t ≡ slice_index_or ts i t →
    map items before ≡ take i (rows_of (graph_of ts)) →
    items row ≡ places_imported (names (graph_of ts)) t.imports.items → after ≡ before ++ row ∷ [] →
    map items after ≡ take (i + 1) (rows_of (graph_of ts))
rows-step items ts i t before after row h there so is e =
    let rows = rows_of (graph_of ts) in
    let ns = names (graph_of ts) in
    let long = rows-length ns ts in
    let named = is ∙ ap (λ u. places_imported ns u.imports.items) there ∙ sym (row-there ns ts i t h) in
    ap (map items) e ∙ map-behind items before row ∙ ap (λ rs. rs ++ items row ∷ []) so ∙
    ap (λ r. take i rows ++ r ∷ []) named ∙ sym (take_more rows i [] (omega (arith, h, long)))

pub graph-length : (ts : List ModuleText) → length (graph_of ts) ≡ length ts
graph-length [] = refl
graph-length (t ∷ ts) = ap suc (graph-length ts)
