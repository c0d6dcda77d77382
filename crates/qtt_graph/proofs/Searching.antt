-- The search from a module along those that import, one import after another.
use Rattle.std.proofs.Common.{◌≡◌, ℕ, zero, suc, ◌+◌, ◌≤◌, ◌<◌, Bool, true, false, ◌||◌, ◌&&◌, cond, List, [], ◌∷◌, ◌++◌, length, take, slice_index_or, slice_set, Option, Some, None, refl, sym, ap, ◌∙◌, subst, ◌⊎◌, inl, inr, arith}
use Rattle.std.specs.Prelude.{◌==◌, is_none}
use Rattle.std.proofs.lemmas.Bool.{cases_eq, cases_lt, and_parts, eqb-true, eq-eqb, ne_eqb, or_right}
use Rattle.std.proofs.lemmas.List.{length-set, get_or-set_same, get_or-set_other, take_all}
use Rattle.std.proofs.lemmas.List.Folds.{list_any_more}
use Rattle.qtt_graph.specs.Graph.{Name, Graph, below, is_among}
use Rattle.qtt_graph.specs.Ring.{Imports}
use Rattle.qtt_graph.specs.Laws.{Closed}
use Rattle.qtt_graph.specs.Modules.{name_at, has_place, IsWithin, AreImporters}
use Rattle.qtt_graph.specs.Near.{HasWay, Near, Widened, imports_one, is_next, is_at, goes_on_from}
use Rattle.qtt_graph.proofs.Among.{none≢some, some-injective}
use Rattle.qtt_graph.proofs.Rings.{one-way, way-one}
use Rattle.qtt_graph.proofs.Following.{placed}
use Rattle.qtt_graph.proofs.Levelled.{whatever-else}
use Rattle.qtt_graph.proofs.Nearer.{way-first, first-way, way-on, way-next, at-value}
use Rattle.qtt_graph.proofs.Turning.{or-false, other-behind, this-behind, any-passes, passes-any}

-- ---- those that pass a test are noted in turn
pub widened-as : (test other : ℕ → Bool) (n : ℕ) (near after : List (Option ℕ)) (next : List ℕ) →
    ((i : ℕ) → i < length near → test i ≡ other i) → Widened test n near after next → Widened other n near after next
widened-as test other n near after next same h = record {
  all = h.all;
  noted = λ i l.
      h.noted i l ∙
      ap (λ t. cond (is_none (slice_index_or near i None) && t) (Some n) (slice_index_or near i None)) (same i l);
  within = h.within;
  each = λ i l. h.each i l ∙ ap (λ t. is_none (slice_index_or near i None) && t) (same i l);
}

-- the test, or that it is this place
abbrev pub or_place : (ℕ → Bool) → ℕ → ℕ → Bool
or_place test a i = test i || (i == a)

or-other : (test : ℕ → Bool) (a i : ℕ) → (i ≡ a → ⊥) → test i ≡ or_place test a i
or-other test a i other = sym (ap (λ t. test i || t) (ne_eqb i a other) ∙ or-false (test i))

none-before : (o after : Option ℕ) (t : Bool) (n : ℕ) → after ≡ cond (is_none o && t) (Some n) o → after ≡ None →
    o ≡ None
none-before None after t n e d = refl
none-before (Some j) after t n e d = sym e ∙ d

pub widened-noted : (test : ℕ → Bool) (n a : ℕ) (near after : List (Option ℕ)) (next : List ℕ) → a < length near →
    slice_index_or after a None ≡ None → Widened test n near after next →
    Widened (or_place test a) n near (slice_set after a (Some n)) (next ++ a ∷ [])
widened-noted test n a near after next l empty h = record {
  all = length-set after a (Some n) ∙ h.all;
  noted = λ i m. noted i m (cases_eq i a);
  within = λ i e. within i e (cases_eq i a);
  each = λ i m. each i m (cases_eq i a);
}
  where
    inside : a < length after
    inside = omega (arith, l, h.all)

    is_new : is_next (or_place test a) near a ≡ true
    is_new =
        ap (λ o. is_none o && or_place test a a) (none-before _ _ _ n (h.noted a l) empty) ∙
        or_right (test a) (a == a) (eq-eqb a a refl)

    noted : (i : ℕ) → i < length near → (i ≡ a) ⊎ (i ≡ a → ⊥) → slice_index_or (slice_set after a (Some n)) i None ≡
        cond (is_next (or_place test a) near i) (Some n) (slice_index_or near i None)
    noted i m (inl same) =
        subst (λ j. slice_index_or (slice_set after a (Some n)) j None ≡
        cond (is_next (or_place test a) near j) (Some n) (slice_index_or near j None)) (sym same)
        (get_or-set_same after a (Some n) None inside ∙
        sym (ap (λ t. cond t (Some n) (slice_index_or near a None)) is_new))
    noted i m (inr other) =
        get_or-set_other after a i (Some n) None other ∙ h.noted i m ∙
        ap (λ t. cond (is_none (slice_index_or near i None) && t) (Some n) (slice_index_or near i None))
        (or-other test a i other)

    within : (i : ℕ) → has_place (next ++ a ∷ []) i ≡ true → (i ≡ a) ⊎ (i ≡ a → ⊥) → i < length near
    within i e (inl same) = omega (arith, l, same)
    within i e (inr other) = h.within i (sym (other-behind next a i other) ∙ e)

    each : (i : ℕ) → i < length near → (i ≡ a) ⊎ (i ≡ a → ⊥) →
        has_place (next ++ a ∷ []) i ≡ is_next (or_place test a) near i
    each i m (inl same) =
        this-behind next a i same ∙ sym (subst (λ j. is_next (or_place test a) near j ≡ true) (sym same) is_new)
    each i m (inr other) =
        other-behind next a i other ∙ h.each i m ∙
        ap (λ t. is_none (slice_index_or near i None) && t) (or-other test a i other)

kept-test : (o after : Option ℕ) (t s : Bool) (n : ℕ) → after ≡ cond (is_none o && t) (Some n) o →
    is_none after ≡ false → (is_none o && t) ≡ (is_none o && (t || s))
kept-test (Some j) after t s n e f = refl
kept-test None after true s n e f = refl
kept-test None after false s n e f = absurd (cc (sym f ∙ ap is_none e))

pub widened-kept : (test : ℕ → Bool) (n a : ℕ) (near after : List (Option ℕ)) (next : List ℕ) →
    is_none (slice_index_or after a None) ≡ false → Widened test n near after next →
    Widened (or_place test a) n near after next
widened-kept test n a near after next full h = record {
  all = h.all;
  noted = λ i l.
      h.noted i l ∙ ap (λ t. cond t (Some n) (slice_index_or near i None)) (same i l (cases_eq i a));
  within = h.within;
  each = λ i l. h.each i l ∙ same i l (cases_eq i a);
}
  where
    same : (i : ℕ) → i < length near → (i ≡ a) ⊎ (i ≡ a → ⊥) → is_next test near i ≡ is_next (or_place test a) near i
    same i l (inl is) =
        kept-test (slice_index_or near i None) (slice_index_or after i None) (test i) (i == a) n (h.noted i l)
        (subst (λ j. is_none (slice_index_or after j None) ≡ false) (sym is) full)
    same i l (inr other) = ap (λ t. is_none (slice_index_or near i None) && t) (or-other test a i other)

-- ---- the importers of the modules of a frontier
-- a module imports one of those that are done, or stands in the row
abbrev pub partly : Graph → List ℕ → List ℕ → ℕ → Bool
partly g done row i = imports_one g done i || has_place row i

or-assoc : (p q r : Bool) → ((p || q) || r) ≡ (p || (q || r))
or-assoc true q r = refl
or-assoc false q r = refl

row-more : (g : Graph) (done row : List ℕ) (m i : ℕ) → m < length row →
    or_place (partly g done (take m row)) (slice_index_or row m 0) i ≡ partly g done (take (m + 1) row) i
row-more g done row m i l =
    or-assoc (imports_one g done i) (has_place (take m row) i) (i == slice_index_or row m 0) ∙
    ap (λ t. imports_one g done i || t) (sym (list_any_more (λ q. i == q) row m 0 l))

-- what stands at a place, as the code reads it
read : (near : List (Option ℕ)) (a : ℕ) (o : Option ℕ) → a < length near → o ≡ slice_index_or near a o →
    slice_index_or near a None ≡ o
read near a o l e = whatever-else near a None o l ∙ sym e

is-none : (o : Option ℕ) → is_none o ≡ true → o ≡ None
is-none None e = refl
is-none (Some d) e = absurd (cc e)

pub row-noted : (g : Graph) (done row : List ℕ) (m n : ℕ) (near after : List (Option ℕ)) (next : List ℕ)
    (o : Option ℕ) → m < length row → slice_index_or row m 0 < length near →
    o ≡ slice_index_or after (slice_index_or row m 0) o → is_none o ≡ true →
    Widened (partly g done (take m row)) n near after next →
    Widened (partly g done (take (m + 1) row)) n near (slice_set after (slice_index_or row m 0) (Some n))
    (next ++ slice_index_or row m 0 ∷ [])
row-noted g done row m n near after next o l k e empty h =
    let a = slice_index_or row m 0 in
    let inside : a < length after = omega (arith, k, h.all) in
    widened-as (or_place (partly g done (take m row)) a) (partly g done (take (m + 1) row)) n near
    (slice_set after a (Some n)) (next ++ a ∷ []) (λ i j. row-more g done row m i l)
    (widened-noted (partly g done (take m row)) n a near after next k (read after a o inside e ∙ is-none o empty) h)

pub row-kept : (g : Graph) (done row : List ℕ) (m n : ℕ) (near after : List (Option ℕ)) (next : List ℕ)
    (o : Option ℕ) → m < length row → slice_index_or row m 0 < length near →
    o ≡ slice_index_or after (slice_index_or row m 0) o → is_none o ≡ false →
    Widened (partly g done (take m row)) n near after next →
    Widened (partly g done (take (m + 1) row)) n near after next
row-kept g done row m n near after next o l k e full h =
    let a = slice_index_or row m 0 in
    let inside : a < length after = omega (arith, k, h.all) in
    widened-as (or_place (partly g done (take m row)) a) (partly g done (take (m + 1) row)) n near after next
    (λ i j. row-more g done row m i l)
    (widened-kept (partly g done (take m row)) n a near after next (ap is_none (read after a o inside e) ∙ full) h)

pub row-done : (g : Graph) (frontier row : List ℕ) (k m n : ℕ) (near after : List (Option ℕ)) (next : List ℕ) →
    length near ≡ length g → k < length frontier → length row ≤ m →
    AreImporters g (slice_index_or frontier k 0) row →
    Widened (partly g (take k frontier) (take m row)) n near after next →
    Widened (imports_one g (take (k + 1) frontier)) n near after next
row-done g frontier row k m n near after next all l far importers h =
    widened-as (partly g (take k frontier) (take m row)) (imports_one g (take (k + 1) frontier)) n near after next
    (λ i j.
    ap (λ t. imports_one g (take k frontier) i || t)
    (ap (λ qs. has_place qs i) (take_all m row far) ∙ importers.each i (omega (arith, j, all))) ∙
    sym (list_any_more (λ p. is_among (below g (name_at g i)) (name_at g p)) frontier k 0 l))
    h

-- ---- from one frontier to the next
-- the places of the modules from which a way of n + 1 imports to the one at place t goes on
pub record Frontier (g : Graph) (near : List (Option ℕ)) (t n : ℕ) (row : List ℕ) : Type 0 where
  pub within : IsWithin (length g) row
  pub each : (p : ℕ) → p < length g → has_place row p ≡ goes_on_from near t n p

leads-on : (g : Graph) (near : List (Option ℕ)) (t n p : ℕ) (c : Name) → Near g (name_at g t) n near → p < length g →
    goes_on_from near t n p ≡ true → Imports g c (name_at g p) → HasWay g n c (name_at g t)
leads-on g near t zero p c h l e i =
    first-way _ (one-way c (name_at g t) (below g c)
    (subst (λ q. is_among (below g c) (name_at g q) ≡ true) (eqb-true p t e) i))
leads-on g near t (suc m) p c h l e i =
    way-on g m c (name_at g p) (name_at g t) i (h.there p m None l (at-value m (slice_index_or near p None) e)).0

-- a module of which nothing is known is come to where a way leads on from it
complete : (g : Graph) (near : List (Option ℕ)) (t n i : ℕ) (frontier : List ℕ) → Closed g → t < length g →
    Near g (name_at g t) n near → Frontier g near t n frontier → i < length g → slice_index_or near i None ≡ None →
    HasWay g n (name_at g i) (name_at g t) → imports_one g frontier i ≡ true
complete g near t zero i frontier closed k h f l none w =
    passes-any (λ p. is_among (below g (name_at g i)) (name_at g p)) frontier t (f.each t k ∙ eq-eqb t t refl)
    (way-one (name_at g i) (name_at g t) (below g (name_at g i)) (way-first _ w))
complete g near t (suc m) i frontier closed k h f l none w =
    let s = way-next g m (name_at g i) (name_at g t) w in
    let p = placed g s.0 (closed (name_at g i) s.0 s.1) in
    let imports = subst (λ c. is_among (below g (name_at g i)) c ≡ true) (sym p.2) s.1 in
    let r = h.least p.0 m None p.1 (omega arith) (subst (λ c. HasWay g m c (name_at g t)) (sym p.2) s.2) in
    by_order p.0 p.1 imports r.0 r.1 r.2 (cases_eq r.0 m)
  where
    by_order : (p : ℕ) → p < length g → is_among (below g (name_at g i)) (name_at g p) ≡ true → (j : ℕ) → j ≤ m →
        slice_index_or near p None ≡ Some j → (j ≡ m) ⊎ (j ≡ m → ⊥) → imports_one g frontier i ≡ true
    by_order p q imports j low e (inl same) =
        passes-any (λ p. is_among (below g (name_at g i)) (name_at g p)) frontier p
        (f.each p q ∙ ap (is_at m) e ∙ eq-eqb j m same) imports
    by_order p q imports j low e (inr other) =
        let way = way-on g j (name_at g i) (name_at g p) (name_at g t) imports (h.there p j None q e).0 in
        let r = h.least i (suc j) None l (omega (arith, low, other)) way in
        absurd (none≢some (sym none ∙ r.2))

one-more : (n : ℕ) → n < n + 1
one-more n = omega arith

pub widened-near : (g : Graph) (near after : List (Option ℕ)) (t n : ℕ) (frontier next : List ℕ) → Closed g →
    t < length g → Near g (name_at g t) n near → Frontier g near t n frontier →
    Widened (imports_one g frontier) n near after next → Near g (name_at g t) (n + 1) after
widened-near g near after t n frontier next closed k h f w = record {
  all = w.all ∙ h.all;
  there = λ i j o l e. there i j l (whatever-else after i None o (omega (arith, l, h.all, w.all)) ∙ e);
  least = λ i j o l s v.
      let r = least i j l s v (cases_lt j n) in
      (r.0, r.1, whatever-else after i o None (omega (arith, l, h.all, w.all)) ∙ r.2);
}
  where
    inside : (i : ℕ) → i < length g → i < length near
    inside i l = omega (arith, l, h.all)

    there : (i j : ℕ) → i < length g → slice_index_or after i None ≡ Some j →
        HasWay g j (name_at g i) (name_at g t) × (j < n + 1)
    there i j l e = by_test (is_next (imports_one g frontier) near i) refl
      where
        by_test : (b : Bool) → is_next (imports_one g frontier) near i ≡ b →
            HasWay g j (name_at g i) (name_at g t) × (j < n + 1)
        by_test true d =
            let value = sym (w.noted i (inside i l) ∙
            ap (λ b. cond b (Some n) (slice_index_or near i None)) d) ∙ e in
            let parts = and_parts _ _ d in
            let p = any-passes (λ p. is_among (below g (name_at g i)) (name_at g p)) frontier parts.1 in
            let low = f.within p.0 p.1 in
            let way = leads-on g near t n p.0 (name_at g i) h low (sym (f.each p.0 low) ∙ p.1) p.2 in
            subst (λ m. HasWay g m (name_at g i) (name_at g t) × (m < n + 1)) (some-injective value) (way, one-more n)
        by_test false d =
            let value = sym (w.noted i (inside i l) ∙
            ap (λ b. cond b (Some n) (slice_index_or near i None)) d) ∙ e in
            let r = h.there i j None l value in
            (r.0, omega (arith, r.1))

    kept : (i j : ℕ) → i < length g → slice_index_or near i None ≡ Some j → slice_index_or after i None ≡ Some j
    kept i j l e =
        w.noted i (inside i l) ∙ ap (λ o. cond (is_none o && imports_one g frontier i) (Some n) o) e

    least : (i j : ℕ) → i < length g → j < n + 1 → HasWay g j (name_at g i) (name_at g t) → (j < n) ⊎ (n ≤ j) →
        (m : ℕ) × (m ≤ j) × (slice_index_or after i None ≡ Some m)
    least i j l s v (inl less) =
        let r = h.least i j None l less v in
        (r.0, r.1, kept i r.0 l r.2)
    least i j l s v (inr more) = by_value (slice_index_or near i None) refl
      where
        same : j ≡ n
        same = omega (arith, s, more)

        by_value : (o : Option ℕ) → slice_index_or near i None ≡ o →
            (m : ℕ) × (m ≤ j) × (slice_index_or after i None ≡ Some m)
        by_value (Some m) e =
            let low = (h.there i m None l e).1 in
            (m, omega (arith, low, more), kept i m l e)
        by_value None e =
            let new = complete g near t n i frontier closed k h f l e
            (subst (λ m. HasWay g m (name_at g i) (name_at g t)) same v) in (
              n,
              more,
              w.noted i (inside i l) ∙
                  ap (λ o. cond (is_none o && imports_one g frontier i) (Some n) (slice_index_or near i None)) e ∙
                  ap (λ b. cond b (Some n) (slice_index_or near i None)) new,
            )

pub widened-frontier : (g : Graph) (near after : List (Option ℕ)) (t n : ℕ) (frontier next : List ℕ) →
    Near g (name_at g t) n near → Widened (imports_one g frontier) n near after next →
    Frontier g after t (n + 1) next
widened-frontier g near after t n frontier next h w =
    let more : suc n ≡ n + 1 = omega arith in
    subst (λ m. Frontier g after t m next) more (record {
      within = λ p e. let l = w.within p e in omega (arith, l, h.all);
      each = λ p l. each p l (is_next (imports_one g frontier) near p) refl;
    })
  where
    earlier : (p : ℕ) → p < length g → (o : Option ℕ) → slice_index_or near p None ≡ o →
        is_at n (slice_index_or near p None) ≡ false
    earlier p l None e = ap (is_at n) e
    earlier p l (Some j) e =
        let low = (h.there p j None l e).1 in
        ap (is_at n) e ∙ ne_eqb j n (λ same. omega (arith, low, same))

    each : (p : ℕ) → p < length g → (b : Bool) → is_next (imports_one g frontier) near p ≡ b →
        has_place next p ≡ is_at n (slice_index_or after p None)
    each p l true e =
        let inside : p < length near = omega (arith, l, h.all) in
        w.each p inside ∙ e ∙
        sym (ap (is_at n) (w.noted p inside ∙ ap (λ b. cond b (Some n) (slice_index_or near p None)) e) ∙
        eq-eqb n n refl)
    each p l false e =
        let inside : p < length near = omega (arith, l, h.all) in
        w.each p inside ∙ e ∙
        sym (ap (is_at n) (w.noted p inside ∙ ap (λ b. cond b (Some n) (slice_index_or near p None)) e) ∙
        earlier p l (slice_index_or near p None) refl)

-- ---- where the frontier is empty, none comes later
pub near-all : (g : Graph) (near : List (Option ℕ)) (t n : ℕ) → Closed g → t < length g → n ≤ length g →
    Near g (name_at g t) n near → Frontier g near t n [] → Near g (name_at g t) (length g) near
near-all g near t zero closed k small h f = absurd (cc (f.each t k ∙ eq-eqb t t refl))
near-all g near t (suc m) closed k small h f = record {
  all = h.all;
  there = λ i j o l e. let r = h.there i j o l e in (r.0, omega (arith, r.1, small));
  least = λ i j o l s w. later j i o l w;
}
  where
    quiet : (p j : ℕ) (o : Option ℕ) → p < length g → slice_index_or near p o ≡ Some j → suc j < suc m
    quiet p j o l e = by_order (cases_eq j m)
      where
        inside : p < length near
        inside = omega (arith, l, h.all)

        low : j < suc m
        low = (h.there p j o l e).1

        by_order : (j ≡ m) ⊎ (j ≡ m → ⊥) → suc j < suc m
        by_order (inl same) =
            absurd (cc (f.each p l ∙ ap (is_at m) (whatever-else near p None o inside ∙ e) ∙ eq-eqb j m same))
        by_order (inr other) = omega (arith, low, other)

    later : (j i : ℕ) (o : Option ℕ) → i < length g → HasWay g j (name_at g i) (name_at g t) →
        (r : ℕ) × (r ≤ j) × (slice_index_or near i o ≡ Some r)
    later zero i o l w = h.least i 0 o l (omega arith) w
    later (suc j) i o l w =
        let s = way-next g j (name_at g i) (name_at g t) w in
        let p = placed g s.0 (closed (name_at g i) s.0 s.1) in
        let d = later j p.0 o p.1 (subst (λ c. HasWay g j c (name_at g t)) (sym p.2) s.2) in
        let imports = subst (λ c. is_among (below g (name_at g i)) c ≡ true) (sym p.2) s.1 in
        let less = quiet p.0 d.0 o p.1 d.2 in
        let on = way-on g d.0 (name_at g i) (name_at g p.0) (name_at g t) imports (h.there p.0 d.0 o p.1 d.2).0 in
        let r = h.least i (suc d.0) o l less on in
        (r.0, omega (arith, r.1, d.1), r.2)
