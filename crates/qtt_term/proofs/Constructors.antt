-- Where constructors stand, as families come in.
use Rattle.std.proofs.Common.{◌≡◌, ℕ, zero, suc, ◌+◌, ◌-◌, ◌<◌, ◌≤◌, List, [], ◌∷◌, ◌++◌, length, get_or, slice_get, map, Option, Some, None, option_map, is_none, Bool, true, false, ◌&&◌, cond, ◌⊎◌, inl, inr, refl, sym, ap, ◌∙◌, subst, arith}
use Rattle.std.specs.List.{list_all, filter}
use Rattle.std.proofs.lemmas.Bool.{and_parts, and_from}
use Rattle.std.proofs.lemmas.List.Sums.{AllPass-from_list_all, list_all-from_AllPass}
use mathlib.Core.Bool.{true≢false}
use Rattle.qtt_base.specs.declared.place.GlobalId.{GlobalId}
use Rattle.qtt_term.specs.declared.term.ConId.{ConId}
use Rattle.qtt_term.specs.declared.globals.Place.{Place}
use Rattle.qtt_term.specs.Term.{same_id}
use Rattle.qtt_term.specs.Question.{either}
use Rattle.qtt_term.specs.Keyed.{id_before, ascends, with_id, inserted, all_inserted, ids_differ, CanInsertAll}
use Rattle.qtt_term.specs.Items.{ConstructorEntry, FamilyEntry, constructor_id, family_id, constructor_from, constructor_in, constructor_of, constructors_differ}
use Rattle.qtt_term.specs.Places.{place_id, place_of, places_from}
use Rattle.qtt_term.proofs.Same.{same_id-is, id-same}
use Rattle.qtt_term.proofs.Order.{with_id-all_inserted, none_is, is-none, inserted_here, inserted_behind, only, filter_yes, filter_no, with_id-filter, absent_first, found_first, found_behind, all_before-absent}

-- ---- the places of one family's constructors
pub place_of-places_from : (f : GlobalId) (n : ℕ) (cs : List ConstructorEntry) (id : GlobalId) →
    place_of (places_from f n cs) id ≡ constructor_from f n cs id
place_of-places_from f n [] id = refl
place_of-places_from f n (c ∷ cs) id = by_test (same_id c.id id) refl (place_of-places_from f (suc n) cs id)
  where
    here : Place
    here = record { id = c.id; con = record { family = f; place = n } }

    by_test : (b : Bool) → same_id c.id id ≡ b →
        place_of (places_from f (suc n) cs) id ≡ constructor_from f (suc n) cs id →
        place_of (places_from f n (c ∷ cs)) id ≡ constructor_from f n (c ∷ cs) id
    by_test true e rest =
        ap (λ b. option_map (λ p. p.con) (cond b (Some here) (with_id place_id id (places_from f (suc n) cs)))) e
        ∙ sym (ap (λ b. cond b (Some here.con) (constructor_from f (suc n) cs id)) e)
    by_test false e rest =
        ap (λ b. option_map (λ p. p.con) (cond b (Some here) (with_id place_id id (places_from f (suc n) cs)))) e ∙ rest
        ∙ sym (ap (λ b. cond b (Some here.con) (constructor_from f (suc n) cs id)) e)

pub places_from-ids : (f : GlobalId) (n : ℕ) (cs : List ConstructorEntry) →
    map place_id (places_from f n cs) ≡ map constructor_id cs
places_from-ids f n [] = refl
places_from-ids f n (c ∷ cs) = ap (λ is. c.id ∷ is) (places_from-ids f (suc n) cs)

pub places_from-more : (f : GlobalId) (n : ℕ) (cs : List ConstructorEntry) (c : ConstructorEntry) →
    places_from f n (cs ++ c ∷ []) ≡ places_from f n cs ++ record
    { id = c.id; con = record { family = f; place = n + length cs } } ∷ []
places_from-more f n [] c =
    let e : n ≡ n + 0 = omega arith in
    ap (λ k. record { id = c.id; con = record { family = f; place = k } } ∷ []) e
places_from-more f n (d ∷ cs) c =
    let e : suc n + length cs ≡ n + length (d ∷ cs) = omega arith in
    ap (λ ps. record { id = d.id; con = record { family = f; place = n } } ∷ ps)
    (places_from-more f (suc n) cs c ∙
    ap (λ k. places_from f (suc n) cs ++ record { id = c.id; con = record { family = f; place = k } } ∷ []) e)

map-either : {A B : Type 0} (f : A → B) (o r : Option A) →
    option_map f (either o r) ≡ either (option_map f o) (option_map f r)
map-either f None r = refl
map-either f (Some a) r = refl

pub place_of-all_inserted : (ps qs : List Place) (id : GlobalId) → CanInsertAll place_id ps qs →
    place_of (all_inserted place_id ps qs) id ≡ either (place_of ps id) (place_of qs id)
place_of-all_inserted ps qs id can =
    ap (option_map (λ p. p.con)) (with_id-all_inserted place_id ps qs id can) ∙ map-either (λ p. p.con)
    (with_id place_id id ps) (with_id place_id id qs)

pub no_place : (ps : List Place) (id : GlobalId) → place_of ps id ≡ None → with_id place_id id ps ≡ None
no_place ps id e = by_case (with_id place_id id ps) e
  where
    by_case : (o : Option Place) → option_map (λ p. p.con) o ≡ None → o ≡ None
    by_case None h = refl
    by_case (Some p) h = absurd (cc h)

-- the places of constructors that are not there can be put in
pub can_place : (f : GlobalId) (n : ℕ) (cs : List ConstructorEntry) (ps : List Place) (Fs : List FamilyEntry) →
    ((id : GlobalId) → place_of ps id ≡ constructor_of Fs id) →
    list_all (λ c. is_none (constructor_of Fs c.id)) cs ≡ true →
    list_all (λ p. is_none (with_id place_id (place_id p) ps)) (places_from f n cs) ≡ true
can_place f n [] ps Fs are absent = refl
can_place f n (c ∷ cs) ps Fs are absent =
    let parts = and_parts (is_none (constructor_of Fs c.id)) (list_all (λ d. is_none (constructor_of Fs d.id)) cs)
    absent in
    let here = no_place ps c.id (are c.id ∙ none_is (constructor_of Fs c.id) parts.0) in
    and_from (is_none (with_id place_id c.id ps))
    (list_all (λ p. is_none (with_id place_id (place_id p) ps)) (places_from f (suc n) cs))
    (is-none (with_id place_id c.id ps) here) (can_place f (suc n) cs ps Fs are parts.1)

-- ---- no constructor of two families
-- an id is no constructor's of the one, or none of the others
abbrev pub Apart : FamilyEntry → List FamilyEntry → Type 0
Apart F Fs = (id : GlobalId) → (constructor_in F id ≡ None) ⊎ (constructor_of Fs id ≡ None)

either_none : {A : Type 0} (o r : Option A) → either o r ≡ None → (o ≡ None) × (r ≡ None)
either_none None r e = (refl, e)
either_none (Some a) r e = absurd (cc e)

apart_first : (F G : FamilyEntry) (Gs : List FamilyEntry) → Apart F (G ∷ Gs) → Apart F Gs
apart_first F G Gs h id =
    elim (h id) [ inl e ↦ inl e | inr e ↦ inr (either_none (constructor_in G id) (constructor_of Gs id) e).1 ]

pub constructor_of-inserted : (F : FamilyEntry) (Fs : List FamilyEntry) (id : GlobalId) → Apart F Fs →
    constructor_of (inserted family_id F Fs) id ≡ either (constructor_in F id) (constructor_of Fs id)
constructor_of-inserted F [] id h = refl
constructor_of-inserted F (G ∷ Gs) id h =
    by_order (id_before F.id G.id) refl (constructor_of-inserted F Gs id (apart_first F G Gs h))
  where
    swapped : {A : Type 0} (a b c : Option A) → ((a ≡ None) ⊎ (either b c ≡ None)) →
        either b (either a c) ≡ either a (either b c)
    swapped None b c h = refl
    swapped (Some x) None c h = refl
    swapped (Some x) (Some y) c h = elim h [ inl e ↦ absurd (cc e) | inr e ↦ absurd (cc e) ]

    by_order : (b : Bool) → id_before F.id G.id ≡ b →
        constructor_of (inserted family_id F Gs) id ≡ either (constructor_in F id) (constructor_of Gs id) →
        constructor_of (inserted family_id F (G ∷ Gs)) id ≡ either (constructor_in F id) (constructor_of (G ∷ Gs) id)
    by_order true e rest = ap (λ Hs. constructor_of Hs id) (inserted_here family_id F G Gs e)
    by_order false e rest =
        ap (λ Hs. constructor_of Hs id) (inserted_behind family_id F G Gs e) ∙ ap (either (constructor_in G id)) rest
        ∙ swapped (constructor_in F id) (constructor_in G id) (constructor_of Gs id) (h id)

-- constructors that are not there
apart_from : (f : GlobalId) (n : ℕ) (cs : List ConstructorEntry) (Fs : List FamilyEntry) (id : GlobalId) →
    list_all (λ c. is_none (constructor_of Fs c.id)) cs ≡ true →
    (constructor_from f n cs id ≡ None) ⊎ (constructor_of Fs id ≡ None)
apart_from f n [] Fs id absent = inl refl
apart_from f n (c ∷ cs) Fs id absent =
    let parts = and_parts (is_none (constructor_of Fs c.id)) (list_all (λ d. is_none (constructor_of Fs d.id)) cs)
    absent in
    by_test (same_id c.id id) refl (none_is (constructor_of Fs c.id) parts.0) (apart_from f (suc n) cs Fs id parts.1)
  where
    by_test : (b : Bool) → same_id c.id id ≡ b → constructor_of Fs c.id ≡ None →
        ((constructor_from f (suc n) cs id ≡ None) ⊎ (constructor_of Fs id ≡ None)) →
        (constructor_from f n (c ∷ cs) id ≡ None) ⊎ (constructor_of Fs id ≡ None)
    by_test true e here rest = inr (ap (constructor_of Fs) (sym (same_id-is c.id id e)) ∙ here)
    by_test false e here rest = elim rest [
      | inl h ↦ inl (ap (λ b. cond b (Some (record { family = f; place = n })) (constructor_from f (suc n) cs id))
          e ∙ h)
      | inr h ↦ inr h
    ]

pub apart : (F : FamilyEntry) (Fs : List FamilyEntry) →
    list_all (λ c. is_none (constructor_of Fs c.id)) F.constructors ≡ true → Apart F Fs
apart F Fs absent id = apart_from F.id 0 F.constructors Fs id absent

-- a family has its own constructors
own_at : (f : GlobalId) (n : ℕ) (cs : List ConstructorEntry) (k : ℕ) (d : ConstructorEntry) → k < length cs →
    constructor_from f n cs (constructor_id (get_or cs k d)) ≡ None → ⊥
own_at f n [] k d lt e = absurd (omega arith)
own_at f n (c ∷ cs) zero d lt e =
    absurd (cc (ap (λ b. cond b (Some (record { family = f; place = n })) (constructor_from f (suc n) cs c.id))
    (sym (id-same c.id)) ∙ e))
own_at f n (c ∷ cs) (suc k) d lt e =
    behind (same_id c.id (constructor_id (get_or cs k d))) e (own_at f (suc n) cs k d (omega arith))
  where
    behind : (b : Bool) → cond b (Some (record { family = f; place = n }))
        (constructor_from f (suc n) cs (constructor_id (get_or cs k d))) ≡ None →
        (constructor_from f (suc n) cs (constructor_id (get_or cs k d)) ≡ None → ⊥) → ⊥
    behind true h never = absurd (cc h)
    behind false h never = never h

pub differ-inserted : (F : FamilyEntry) (Fs : List FamilyEntry) → constructors_differ Fs ≡ true →
    ids_differ (map constructor_id F.constructors) ≡ true →
    list_all (λ c. is_none (constructor_of Fs c.id)) F.constructors ≡ true → Apart F Fs →
    constructors_differ (inserted family_id F Fs) ≡ true
differ-inserted F [] differ own absent h =
    and_from (ids_differ (map constructor_id F.constructors))
    (list_all (λ c. is_none (constructor_of [] c.id)) F.constructors && true) own
    (and_from (list_all (λ c. is_none (constructor_of [] c.id)) F.constructors) true absent refl)
differ-inserted F (G ∷ Gs) differ own absent h =
    let parts = and_parts (ids_differ (map constructor_id G.constructors))
    (list_all (λ c. is_none (constructor_of Gs c.id)) G.constructors && constructors_differ Gs) differ in
    let rest = and_parts (list_all (λ c. is_none (constructor_of Gs c.id)) G.constructors)
    (constructors_differ Gs) parts.1 in
    by_order (id_before F.id G.id) refl parts.0 rest.0
    (differ-inserted F Gs rest.1 own
    (list_all-from_AllPass (λ c. is_none (constructor_of Gs c.id)) F.constructors (λ k d lt. still k d lt))
    (apart_first F G Gs h))
  where
    still : (k : ℕ) (d : ConstructorEntry) → k < length F.constructors →
        is_none (constructor_of Gs (constructor_id (get_or F.constructors k d))) ≡ true
    still k d lt =
        let id = constructor_id (get_or F.constructors k d) in
        let all = none_is (constructor_of (G ∷ Gs) id)
        (AllPass-from_list_all (λ c. is_none (constructor_of (G ∷ Gs) c.id)) F.constructors absent k d lt) in
        is-none (constructor_of Gs id) (either_none (constructor_in G id) (constructor_of Gs id) all).1

    not_new : (k : ℕ) (d : ConstructorEntry) → k < length G.constructors →
        constructor_in F (constructor_id (get_or G.constructors k d)) ≡ None
    not_new k d lt =
        let id = constructor_id (get_or G.constructors k d) in
        elim (h id) [
          | inl e ↦ e
          | inr e ↦ absurd (own_at G.id 0 G.constructors k d lt
              (either_none (constructor_in G id) (constructor_of Gs id) e).0)
        ]

    by_order : (b : Bool) → id_before F.id G.id ≡ b → ids_differ (map constructor_id G.constructors) ≡ true →
        list_all (λ c. is_none (constructor_of Gs c.id)) G.constructors ≡ true →
        constructors_differ (inserted family_id F Gs) ≡ true →
        constructors_differ (inserted family_id F (G ∷ Gs)) ≡ true
    by_order true e first others tail =
        ap constructors_differ (inserted_here family_id F G Gs e)
        ∙ and_from (ids_differ (map constructor_id F.constructors))
        (list_all (λ c. is_none (constructor_of (G ∷ Gs) c.id)) F.constructors && constructors_differ
        (G ∷ Gs)) own
        (and_from (list_all (λ c. is_none (constructor_of (G ∷ Gs) c.id)) F.constructors)
        (constructors_differ (G ∷ Gs)) absent differ)
    by_order false e first others tail =
        let here = λ (k : ℕ) (d : ConstructorEntry) (lt : k < length G.constructors).
        let id = constructor_id (get_or G.constructors k d) in
        is-none (constructor_of (inserted family_id F Gs) id)
        (constructor_of-inserted F Gs id (apart_first F G Gs h) ∙ ap (λ o. either o (constructor_of Gs id))
        (not_new k d lt)
        ∙ none_is (constructor_of Gs id)
        (AllPass-from_list_all (λ c. is_none (constructor_of Gs c.id)) G.constructors others k d lt)) in
        ap constructors_differ (inserted_behind family_id F G Gs e)
        ∙ and_from (ids_differ (map constructor_id G.constructors))
        (list_all (λ c. is_none (constructor_of (inserted family_id F Gs) c.id)) G.constructors &&
        constructors_differ (inserted family_id F Gs)) first
        (and_from (list_all (λ c. is_none (constructor_of (inserted family_id F Gs) c.id)) G.constructors)
        (constructors_differ (inserted family_id F Gs))
        (list_all-from_AllPass (λ c. is_none (constructor_of (inserted family_id F Gs) c.id)) G.constructors here) tail)

-- ---- the families of some ids
from_family : (f : GlobalId) (n : ℕ) (cs : List ConstructorEntry) (id : GlobalId) (con : ConId) →
    constructor_from f n cs id ≡ Some con → con.family ≡ f
from_family f n [] id con e = absurd (cc e)
from_family f n (c ∷ cs) id con e = by_test (same_id c.id id) e (from_family f (suc n) cs id con)
  where
    by_test : (b : Bool) → cond b (Some (record { family = f; place = n })) (constructor_from f (suc n) cs id) ≡
        Some con →
        (constructor_from f (suc n) cs id ≡ Some con → con.family ≡ f) → con.family ≡ f
    by_test true h rest =
        let same : record { family = f; place = n } ≡ con = cc h in
        ap (λ x. x.family) (sym same)
    by_test false h rest = rest h

option_cases : {A : Type 0} (o : Option A) → (o ≡ None) ⊎ ((a : A) × (o ≡ Some a))
option_cases None = inl refl
option_cases (Some a) = inr (a, refl)

-- a family's constructor is none of the others
none_behind : (F : FamilyEntry) (Fs : List FamilyEntry) (id : GlobalId) (con : ConId) →
    constructors_differ (F ∷ Fs) ≡ true → constructor_in F id ≡ Some con → constructor_of Fs id ≡ None
none_behind F Fs id con differ e =
    let own = ids_differ (map constructor_id F.constructors) in
    let others = list_all (λ c. is_none (constructor_of Fs c.id)) F.constructors in
    let absent = (and_parts others (constructors_differ Fs)
    (and_parts own (others && constructors_differ Fs) differ).1).0 in
    elim (apart F Fs absent id) [ inl none ↦ absurd (cc (sym none ∙ e)) | inr none ↦ none ]

differ_behind : (F : FamilyEntry) (Fs : List FamilyEntry) → constructors_differ (F ∷ Fs) ≡ true →
    constructors_differ Fs ≡ true
differ_behind F Fs differ =
    let own = ids_differ (map constructor_id F.constructors) in
    let others = list_all (λ c. is_none (constructor_of Fs c.id)) F.constructors in
    (and_parts others (constructors_differ Fs) (and_parts own (others && constructors_differ Fs) differ).1).1

pub constructor_of-filter : (p : GlobalId → Bool) (Fs : List FamilyEntry) (id : GlobalId) →
    constructors_differ Fs ≡ true →
    constructor_of (filter (λ F. p F.id) Fs) id ≡ only (λ con. p con.family) (constructor_of Fs id)
constructor_of-filter p [] id differ = refl
constructor_of-filter p (F ∷ Fs) id differ =
    by_test (p F.id) refl (option_cases (constructor_in F id))
    (constructor_of-filter p Fs id (differ_behind F Fs differ))
  where
    by_test : (b : Bool) → p F.id ≡ b →
        ((constructor_in F id ≡ None) ⊎ ((con : ConId) × (constructor_in F id ≡ Some con))) →
        constructor_of (filter (λ G. p G.id) Fs) id ≡ only (λ con. p con.family) (constructor_of Fs id) →
        constructor_of (filter (λ G. p G.id) (F ∷ Fs)) id ≡ only (λ con. p con.family) (constructor_of (F ∷ Fs) id)
    by_test true e (inl none) rest =
        ap (λ Gs. constructor_of Gs id) (filter_yes (λ G. p G.id) F Fs e) ∙
        ap (λ o. either o (constructor_of (filter (λ G. p G.id) Fs) id)) none ∙ rest
        ∙ sym (ap (λ o. only (λ con. p con.family) (either o (constructor_of Fs id))) none)
    by_test true e (inr there) rest =
        ap (λ Gs. constructor_of Gs id) (filter_yes (λ G. p G.id) F Fs e) ∙
        ap (λ o. either o (constructor_of (filter (λ G. p G.id) Fs) id)) there.1
        ∙ sym (ap (λ b. cond b (Some there.0) None) (ap p (from_family F.id 0 F.constructors id there.0 there.1) ∙ e))
        ∙ sym (ap (λ o. only (λ con. p con.family) (either o (constructor_of Fs id))) there.1)
    by_test false e (inl none) rest =
        ap (λ Gs. constructor_of Gs id) (filter_no (λ G. p G.id) F Fs e) ∙ rest
        ∙ sym (ap (λ o. only (λ con. p con.family) (either o (constructor_of Fs id))) none)
    by_test false e (inr there) rest =
        ap (λ Gs. constructor_of Gs id) (filter_no (λ G. p G.id) F Fs e) ∙ rest ∙ ap (only (λ con. p con.family))
        (none_behind F Fs id there.0 differ there.1)
        ∙ sym (ap (λ b. cond b (Some there.0) None) (ap p (from_family F.id 0 F.constructors id there.0 there.1) ∙ e))
        ∙ sym (ap (λ o. only (λ con. p con.family) (either o (constructor_of Fs id))) there.1)

pub constructor_of-filter_none : (q : FamilyEntry → Bool) (Fs : List FamilyEntry) (id : GlobalId) →
    constructor_of Fs id ≡ None → constructor_of (filter q Fs) id ≡ None
constructor_of-filter_none q [] id e = refl
constructor_of-filter_none q (F ∷ Fs) id e =
    let parts = either_none (constructor_in F id) (constructor_of Fs id) e in
    by_test (q F) refl parts.0 (constructor_of-filter_none q Fs id parts.1)
  where
    by_test : (b : Bool) → q F ≡ b → constructor_in F id ≡ None → constructor_of (filter q Fs) id ≡ None →
        constructor_of (filter q (F ∷ Fs)) id ≡ None
    by_test true h none rest =
        ap (λ Gs. constructor_of Gs id) (filter_yes q F Fs h) ∙
        ap (λ o. either o (constructor_of (filter q Fs) id)) none ∙ rest
    by_test false h none rest = ap (λ Gs. constructor_of Gs id) (filter_no q F Fs h) ∙ rest

pub differ-filter : (q : FamilyEntry → Bool) (Fs : List FamilyEntry) → constructors_differ Fs ≡ true →
    constructors_differ (filter q Fs) ≡ true
differ-filter q [] differ = refl
differ-filter q (F ∷ Fs) differ = by_test (q F) refl (differ-filter q Fs (differ_behind F Fs differ))
  where
    still : (k : ℕ) (d : ConstructorEntry) → k < length F.constructors →
        is_none (constructor_of (filter q Fs) (constructor_id (get_or F.constructors k d))) ≡ true
    still k d lt =
        let own = ids_differ (map constructor_id F.constructors) in
        let others = list_all (λ c. is_none (constructor_of Fs c.id)) F.constructors in
        let absent = (and_parts others (constructors_differ Fs)
        (and_parts own (others && constructors_differ Fs) differ).1).0 in
        let id = constructor_id (get_or F.constructors k d) in
        let none = none_is (constructor_of Fs id)
        (AllPass-from_list_all (λ c. is_none (constructor_of Fs c.id)) F.constructors absent k d lt) in
        is-none (constructor_of (filter q Fs) id) (constructor_of-filter_none q Fs id none)

    by_test : (b : Bool) → q F ≡ b → constructors_differ (filter q Fs) ≡ true →
        constructors_differ (filter q (F ∷ Fs)) ≡ true
    by_test true e rest =
        let own = ids_differ (map constructor_id F.constructors) in
        let before = list_all (λ c. is_none (constructor_of Fs c.id)) F.constructors in
        let others = list_all (λ c. is_none (constructor_of (filter q Fs) c.id)) F.constructors in
        ap constructors_differ (filter_yes q F Fs e)
        ∙ and_from own (others && constructors_differ (filter q Fs))
        (and_parts own (before && constructors_differ Fs) differ).0
        (and_from others (constructors_differ (filter q Fs))
        (list_all-from_AllPass (λ c. is_none (constructor_of (filter q Fs) c.id)) F.constructors still) rest)
    by_test false e rest = ap constructors_differ (filter_no q F Fs e) ∙ rest

map-only : {A B : Type 0} (f : A → B) (q : B → Bool) (o : Option A) →
    option_map f (only (λ a. q (f a)) o) ≡ only q (option_map f o)
map-only f q None = refl
map-only f q (Some a) = by_test (q (f a))
  where
    by_test : (b : Bool) → option_map f (cond b (Some a) None) ≡ cond b (Some (f a)) None
    by_test true = refl
    by_test false = refl

pub place_of-filter : (p : GlobalId → Bool) (ps : List Place) (id : GlobalId) → ascends place_id ps ≡ true →
    place_of (filter (λ x. p x.con.family) ps) id ≡ only (λ con. p con.family) (place_of ps id)
place_of-filter p ps id up =
    ap (option_map (λ x. x.con)) (with_id-filter place_id (λ x. p x.con.family) id ps up) ∙ map-only (λ x. x.con)
    (λ con. p con.family) (with_id place_id id ps)

-- ---- several families
-- an id is no constructor's of the ones, or none of the others
abbrev pub AllApart : List FamilyEntry → List FamilyEntry → Type 0
AllApart Fs Gs = (id : GlobalId) → (constructor_of Fs id ≡ None) ⊎ (constructor_of Gs id ≡ None)

apart_of_all : (F : FamilyEntry) (Fs Gs : List FamilyEntry) → AllApart (F ∷ Fs) Gs → Apart F Gs
apart_of_all F Fs Gs h id =
    elim (h id) [ inl e ↦ inl (either_none (constructor_in F id) (constructor_of Fs id) e).0 | inr e ↦ inr e ]

others_apart : (F : FamilyEntry) (Fs Gs : List FamilyEntry) → constructors_differ (F ∷ Fs) ≡ true →
    AllApart (F ∷ Fs) Gs → AllApart Fs (inserted family_id F Gs)
others_apart F Fs Gs differ h id = elim (option_cases (constructor_in F id)) [
  | inr there ↦ inl (none_behind F Fs id there.0 differ there.1)
  | inl none ↦ elim (h id) [
    | inl e ↦ inl (either_none (constructor_in F id) (constructor_of Fs id) e).1
    | inr e ↦ inr (constructor_of-inserted F Gs id (apart_of_all F Fs Gs h) ∙
        ap (λ o. either o (constructor_of Gs id)) none ∙ e)
  ]
]

pub constructor_of-all_inserted : (Fs Gs : List FamilyEntry) (id : GlobalId) → constructors_differ Fs ≡ true →
    AllApart Fs Gs →
    constructor_of (all_inserted family_id Fs Gs) id ≡ either (constructor_of Fs id) (constructor_of Gs id)
constructor_of-all_inserted [] Gs id differ h = refl
constructor_of-all_inserted (F ∷ Fs) Gs id differ h =
    constructor_of-all_inserted Fs (inserted family_id F Gs) id (differ_behind F Fs differ)
    (others_apart F Fs Gs differ h)
    ∙ ap (either (constructor_of Fs id)) (constructor_of-inserted F Gs id (apart_of_all F Fs Gs h))
    ∙ by_case (option_cases (constructor_in F id))
  where
    by_case : ((constructor_in F id ≡ None) ⊎ ((con : ConId) × (constructor_in F id ≡ Some con))) →
        either (constructor_of Fs id) (either (constructor_in F id) (constructor_of Gs id)) ≡ either
        (either (constructor_in F id) (constructor_of Fs id)) (constructor_of Gs id)
    by_case (inl none) =
        ap (λ o. either (constructor_of Fs id) (either o (constructor_of Gs id))) none ∙
        sym (ap (λ o. either (either o (constructor_of Fs id)) (constructor_of Gs id)) none)
    by_case (inr there) =
        ap (λ o. either o (either (constructor_in F id) (constructor_of Gs id)))
        (none_behind F Fs id there.0 differ there.1)
        ∙ ap (λ o. either o (constructor_of Gs id)) there.1
        ∙ sym (ap (λ o. either (either o (constructor_of Fs id)) (constructor_of Gs id)) there.1)

pub differ-all_inserted : (Fs Gs : List FamilyEntry) → constructors_differ Fs ≡ true →
    constructors_differ Gs ≡ true → AllApart Fs Gs → constructors_differ (all_inserted family_id Fs Gs) ≡ true
differ-all_inserted [] Gs differ others h = others
differ-all_inserted (F ∷ Fs) Gs differ others h =
    differ-all_inserted Fs (inserted family_id F Gs) (differ_behind F Fs differ)
    (differ-inserted F Gs others own
    (list_all-from_AllPass (λ c. is_none (constructor_of Gs c.id)) F.constructors absent)
    (apart_of_all F Fs Gs h))
    (others_apart F Fs Gs differ h)
  where
    own : ids_differ (map constructor_id F.constructors) ≡ true
    own = (and_parts (ids_differ (map constructor_id F.constructors))
        (list_all (λ c. is_none (constructor_of Fs c.id)) F.constructors && constructors_differ Fs) differ).0

    absent : (k : ℕ) (d : ConstructorEntry) → k < length F.constructors →
        is_none (constructor_of Gs (constructor_id (get_or F.constructors k d))) ≡ true
    absent k d lt =
        let id = constructor_id (get_or F.constructors k d) in
        elim (apart_of_all F Fs Gs h id)
        [ inl e ↦ absurd (own_at F.id 0 F.constructors k d lt e) | inr e ↦ is-none (constructor_of Gs id) e ]

-- ---- where a constructor is found
pub family_there : (Fs : List FamilyEntry) (id : GlobalId) (con : ConId) → constructor_of Fs id ≡ Some con →
    with_id family_id con.family Fs ≡ None → ⊥
family_there [] id con e none = cc e
family_there (F ∷ Fs) id con e none =
    let parts = absent_first family_id con.family F Fs none in
    elim (option_cases (constructor_in F id)) [
      | inl h ↦ family_there Fs id con (sym (ap (λ o. either o (constructor_of Fs id)) h) ∙ e) parts.1
      | inr h ↦
          let first : Some h.0 ≡ Some con = sym (ap (λ o. either o (constructor_of Fs id)) h.1) ∙ e in
          let same : h.0 ≡ con = cc first in
          let family = ap (λ x. x.family) (sym same) ∙ from_family F.id 0 F.constructors id h.0 h.1 in
          true≢false (sym (id-same F.id) ∙ ap (same_id F.id) (sym family) ∙ parts.0)
    ]

place_from : (f : GlobalId) (n : ℕ) (cs : List ConstructorEntry) (id : GlobalId) (con : ConId) →
    constructor_from f n cs id ≡ Some con →
    (n ≤ con.place) × (slice_get (map constructor_id cs) (con.place - n) ≡ Some id)
place_from f n [] id con e = absurd (cc e)
place_from f n (c ∷ cs) id con e = by_test (same_id c.id id) refl e (place_from f (suc n) cs id con)
  where
    by_test : (b : Bool) → same_id c.id id ≡ b →
        cond b (Some (record { family = f; place = n })) (constructor_from f (suc n) cs id) ≡ Some con →
        (constructor_from f (suc n) cs id ≡ Some con →
        (suc n ≤ con.place) × (slice_get (map constructor_id cs) (con.place - suc n) ≡ Some id)) →
        (n ≤ con.place) × (slice_get (map constructor_id (c ∷ cs)) (con.place - n) ≡ Some id)
    by_test true t h rest =
        let first : record { family = f; place = n } ≡ con = cc h in
        let here : n ≡ con.place = ap (λ x. x.place) first in
        let zero_place : con.place - n ≡ 0 = omega (arith, here) in
        (omega (arith, here), ap (slice_get (map constructor_id (c ∷ cs))) zero_place ∙ ap Some (same_id-is c.id id t))
    by_test false t h rest =
        let found = rest h in
        let place : con.place - n ≡ suc (con.place - suc n) = omega (arith, found.0) in
        (omega (arith, found.0), ap (slice_get (map constructor_id (c ∷ cs))) place ∙ found.1)

pub place_there : (Fs : List FamilyEntry) (id : GlobalId) (con : ConId) (F : FamilyEntry) →
    ascends family_id Fs ≡ true → constructor_of Fs id ≡ Some con →
    with_id family_id con.family Fs ≡ Some F → slice_get (map constructor_id F.constructors) con.place ≡ Some id
place_there [] id con F up e found = absurd (cc e)
place_there (G ∷ Gs) id con F up e found = elim (option_cases (constructor_in G id)) [
  | inr h ↦
      let first : Some h.0 ≡ Some con = sym (ap (λ o. either o (constructor_of Gs id)) h.1) ∙ e in
      let same : h.0 ≡ con = cc first in
      let family = ap (λ x. x.family) (sym same) ∙ from_family G.id 0 G.constructors id h.0 h.1 in
      let here : Some G ≡ Some F = sym (found_first family_id con.family G Gs (sym family)) ∙ found in
      let is : G ≡ F = cc here in
      let placed = place_from G.id 0 G.constructors id con (h.1 ∙ ap Some same) in
      let zero_less : con.place ≡ con.place - 0 = omega arith in
      ap (λ H. slice_get (map constructor_id H.constructors) con.place) (sym is) ∙
      ap (slice_get (map constructor_id G.constructors)) zero_less ∙ placed.1
  | inl h ↦
      let behind = sym (ap (λ o. either o (constructor_of Gs id)) h) ∙ e in
      let parts = and_parts (list_all (λ y. id_before G.id (family_id y)) Gs) (ascends family_id Gs) up in
      place_there Gs id con F parts.1 behind (later (same_id G.id con.family) refl behind parts.0)
]
  where
    later : (b : Bool) → same_id G.id con.family ≡ b → constructor_of Gs id ≡ Some con →
        list_all (λ y. id_before G.id (family_id y)) Gs ≡ true → with_id family_id con.family Gs ≡ Some F
    later true t behind before =
        let none = all_before-absent family_id con.family Gs
        (subst (λ a. list_all (λ y. id_before a (family_id y)) Gs ≡ true)
        (same_id-is G.id con.family t) before) in
        absurd (family_there Gs id con behind none)
    later false t behind before = sym (found_behind family_id con.family G Gs t) ∙ found
