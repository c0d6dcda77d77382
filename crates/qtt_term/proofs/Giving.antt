-- A family that stands without constructors is given them.
use Rattle.std.proofs.Common.{◌≡◌, List, [], ◌∷◌, map, Option, Some, None, option_map, is_none, inl, Bool, true, false, ◌&&◌, not, cond, refl, sym, ap, ◌∙◌, subst}
use Rattle.std.specs.List.{list_all, filter}
use Rattle.std.proofs.lemmas.Bool.{and_parts, and_from}
use Rattle.qtt_base.specs.declared.place.GlobalId.{GlobalId}
use Rattle.qtt_term.specs.declared.globals.Place.{Place}
use Rattle.qtt_term.specs.declared.globals.Globals.{Globals}
use Rattle.qtt_term.specs.declared.items.Constructor as code_constructor
use Rattle.qtt_term.specs.Term.{same_id}
use Rattle.qtt_term.specs.Question.{either}
use Rattle.qtt_term.specs.Keyed.{id_before, ascends, with_id, inserted, all_inserted, ids_differ, CanInsertAll}
use Rattle.qtt_term.specs.Items.{ConstructorEntry, FamilyEntry, constructor_entry, constructor_id, family_id, definition_id, given_constructors, with_constructors, constructor_from, constructor_in, constructor_of, constructors_differ, results_counted, all_results_counted}
use Rattle.qtt_term.specs.Places.{place_id, place_of, places_from}
use Rattle.qtt_term.specs.Globals.{families, definitions, CanGive, is_absent}
use Rattle.qtt_term.proofs.Same.{same_id-is, id-same}
use Rattle.qtt_term.proofs.Options.{some-injective}
use Rattle.qtt_term.proofs.Order.{before-asym, after-differs, all-inserted, all-filter, absent_first, found_behind, has_id, inserted_here, inserted_behind, filter_yes, filter_no, changed, ascends-changed, ascends-all_inserted, can_insert_all}
use Rattle.qtt_term.proofs.Kept.{found-passes}
use Rattle.qtt_term.proofs.Constructors.{Apart, apart, can_place, place_of-places_from, places_from-ids, place_of-all_inserted, constructor_of-inserted, differ-filter, differ-inserted}

-- ---- elements by their ids
-- no element of this id is changed where there is none
absent-unchanged : {Y : Type 0} (key : Y → GlobalId) (id : GlobalId) (h : Y → Y) (ys : List Y) →
    with_id key id ys ≡ None → map (changed key id h) ys ≡ ys
absent-unchanged key id h [] e = refl
absent-unchanged key id h (y ∷ ys) e =
    let parts = absent_first key id y ys e in
    ap (λ b. cond b (h y) y ∷ map (changed key id h) ys) parts.0 ∙ ap (λ zs. y ∷ zs)
    (absent-unchanged key id h ys parts.1)

-- an element that is changed is as if it had been put in so
changed-inserted : {Y : Type 0} (key : Y → GlobalId) (h : Y → Y) (y : Y) (ys : List Y) → key (h y) ≡ key y →
    with_id key (key y) ys ≡ None → map (changed key (key y) h) (inserted key y ys) ≡ inserted key (h y) ys
changed-inserted key h y [] keeps e = ap (λ b. cond b (h y) y ∷ []) (id-same (key y))
changed-inserted {Y = Y} key h y (z ∷ zs) keeps e =
    let parts = absent_first key (key y) z zs e in
    by_order (id_before (key y) (key z)) refl parts.0 (changed-inserted key h y zs keeps parts.1)
  where
    same_test : id_before (key (h y)) (key z) ≡ id_before (key y) (key z)
    same_test = ap (λ i. id_before i (key z)) keeps

    by_order : (b : Bool) → id_before (key y) (key z) ≡ b → same_id (key z) (key y) ≡ false →
        map (changed key (key y) h) (inserted key y zs) ≡ inserted key (h y) zs →
        map (changed key (key y) h) (inserted key y (z ∷ zs)) ≡ inserted key (h y) (z ∷ zs)
    by_order true t other rest =
        ap (map (changed key (key y) h)) (inserted_here key y z zs t)
        ∙ ap (λ b. cond b (h y) y ∷ map (changed key (key y) h) (z ∷ zs)) (id-same (key y))
        ∙ ap (λ ws. h y ∷ ws) (absent-unchanged key (key y) h (z ∷ zs) e)
        ∙ sym (inserted_here key (h y) z zs (same_test ∙ t))
    by_order false t other rest =
        ap (map (changed key (key y) h)) (inserted_behind key y z zs t)
        ∙ ap (λ b. cond b (h z) z ∷ map (changed key (key y) h) (inserted key y zs)) other
        ∙ ap (λ ws. z ∷ ws) rest
        ∙ sym (inserted_behind key (h y) z zs (same_test ∙ t))

-- the elements but that of this id
abbrev pub others : {Y : Type 0} → (Y → GlobalId) → GlobalId → List Y → List Y
others key id = filter (λ y. not (same_id (key y) id))

not-false : (b : Bool) → b ≡ false → not b ≡ true
not-false true e = sym e
not-false false e = refl

not-true : (b : Bool) → b ≡ true → not b ≡ false
not-true true e = refl
not-true false e = sym e

others-absent : {Y : Type 0} (key : Y → GlobalId) (id : GlobalId) (ys : List Y) →
    with_id key id (others key id ys) ≡ None
others-absent key id [] = refl
others-absent {Y = Y} key id (y ∷ ys) = by_test (same_id (key y) id) refl (others-absent key id ys)
  where
    by_test : (b : Bool) → same_id (key y) id ≡ b → with_id key id (others key id ys) ≡ None →
        with_id key id (others key id (y ∷ ys)) ≡ None
    by_test true e rest =
        ap (with_id key id) (filter_no (λ z. not (same_id (key z) id)) y ys (not-true (same_id (key y) id) e)) ∙ rest
    by_test false e rest =
        ap (with_id key id) (filter_yes (λ z. not (same_id (key z) id)) y ys (not-false (same_id (key y) id) e))
        ∙ found_behind key id y (others key id ys) e ∙ rest

-- all are others where all stand behind the id
all-others : {Y : Type 0} (key : Y → GlobalId) (id : GlobalId) (ys : List Y) →
    list_all (λ y. id_before id (key y)) ys ≡ true → others key id ys ≡ ys
all-others key id [] h = refl
all-others key id (y ∷ ys) h =
    let parts = and_parts (id_before id (key y)) (list_all (λ z. id_before id (key z)) ys) h in
    filter_yes (λ z. not (same_id (key z) id)) y ys
    (not-false (same_id (key y) id) (after-differs id (key y) parts.0))
    ∙ ap (λ zs. y ∷ zs) (all-others key id ys parts.1)

first-inserted : {Y : Type 0} (key : Y → GlobalId) (y : Y) (ys : List Y) →
    list_all (λ z. id_before (key y) (key z)) ys ≡ true → inserted key y ys ≡ y ∷ ys
first-inserted key y [] h = refl
first-inserted key y (z ∷ zs) h = inserted_here key y z zs
    (and_parts (id_before (key y) (key z)) (list_all (λ w. id_before (key y) (key w)) zs) h).0

-- an element among those in order, put in among the others
pub put-back : {Y : Type 0} (key : Y → GlobalId) (id : GlobalId) (ys : List Y) (x : Y) → ascends key ys ≡ true →
    with_id key id ys ≡ Some x → ys ≡ inserted key x (others key id ys)
put-back key id [] x up e = absurd (cc e)
put-back {Y = Y} key id (y ∷ ys) x up e =
    let parts = and_parts (list_all (λ z. id_before (key y) (key z)) ys) (ascends key ys) up in
    by_test (same_id (key y) id) refl parts.0 (put-back key id ys x parts.1)
  where
    by_test : (b : Bool) → same_id (key y) id ≡ b → list_all (λ z. id_before (key y) (key z)) ys ≡ true →
        (with_id key id ys ≡ Some x → ys ≡ inserted key x (others key id ys)) →
        y ∷ ys ≡ inserted key x (others key id (y ∷ ys))
    by_test true t behind rest =
        let here : y ≡ x = some-injective (sym (ap (λ b. cond b (Some y) (with_id key id ys)) t) ∙ e) in
        let before = subst (λ i. list_all (λ z. id_before i (key z)) ys ≡ true) (same_id-is (key y) id t) behind in
        sym (first-inserted key y ys behind) ∙ ap (inserted key y) (sym (all-others key id ys before))
        ∙ ap (inserted key y) (sym (filter_no (λ z. not (same_id (key z) id)) y ys (not-true (same_id (key y) id) t)))
        ∙ ap (λ z. inserted key z (others key id (y ∷ ys))) here
    by_test false t behind rest =
        let found = sym (found_behind key id y ys t) ∙ e in
        let later = found-passes key (λ z. id_before (key y) (key z)) id ys x behind found in
        ap (λ zs. y ∷ zs) (rest found)
        ∙ sym (inserted_behind key x y (others key id ys) (before-asym (key y) (key x) later))
        ∙ ap (inserted key x)
        (sym (filter_yes (λ z. not (same_id (key z) id)) y ys (not-false (same_id (key y) id) t)))

-- ---- families
pub given-inserted : (F : FamilyEntry) (cs : List ConstructorEntry) (Fs : List FamilyEntry) →
    with_id family_id F.id Fs ≡ None →
    with_constructors F.id cs (inserted family_id F Fs) ≡ inserted family_id (given_constructors cs F) Fs
given-inserted F cs Fs e = changed-inserted family_id (given_constructors cs) F Fs refl e

-- a family F of id f that stands among others in order without constructors, and new constructors
module _ (f : GlobalId) (F : FamilyEntry) (Fs : List FamilyEntry) (cs : List ConstructorEntry)
    (up : ascends family_id Fs ≡ true) (there : with_id family_id f Fs ≡ Some F) (bare : F.constructors ≡ [])
    (absent : list_all (λ c. is_none (constructor_of Fs c.id)) cs ≡ true) where
  its_id : F.id ≡ f
  its_id = has_id family_id f Fs F there

  abbrev pub rest : List FamilyEntry
  rest = others family_id f Fs

  whole : Fs ≡ inserted family_id F rest
  whole = put-back family_id f Fs F up there

  pub given-among : with_constructors f cs Fs ≡ inserted family_id (given_constructors cs F) rest
  given-among =
      let gone = ap (λ i. with_id family_id i rest) its_id ∙ others-absent family_id f Fs in
      ap (with_constructors f cs) whole ∙ ap (λ i. with_constructors i cs (inserted family_id F rest)) (sym its_id)
      ∙ given-inserted F cs rest gone

  none_of_it : (id : GlobalId) → constructor_in F id ≡ None
  none_of_it id = ap (λ ds. constructor_from F.id 0 ds id) bare

  same_of_rest : (id : GlobalId) → constructor_of Fs id ≡ constructor_of rest id
  same_of_rest id =
      let h : Apart F rest = λ i. inl (none_of_it i) in
      ap (λ Gs. constructor_of Gs id) whole ∙ constructor_of-inserted F rest id h
      ∙ ap (λ o. either o (constructor_of rest id)) (none_of_it id)

  absent_of_rest : list_all (λ c. is_none (constructor_of rest c.id)) cs ≡ true
  absent_of_rest = each cs absent
    where
      each : (ds : List ConstructorEntry) → list_all (λ c. is_none (constructor_of Fs c.id)) ds ≡ true →
          list_all (λ c. is_none (constructor_of rest c.id)) ds ≡ true
      each [] h = refl
      each (d ∷ ds) h =
          let parts = and_parts (is_none (constructor_of Fs d.id)) (list_all (λ c. is_none (constructor_of Fs c.id)) ds)
          h in
          and_from (is_none (constructor_of rest d.id)) (list_all (λ c. is_none (constructor_of rest c.id)) ds)
          (sym (ap is_none (same_of_rest d.id)) ∙ parts.0) (each ds parts.1)

  pub given-apart : Apart (given_constructors cs F) rest
  given-apart = apart (given_constructors cs F) rest absent_of_rest

  pub given-places : (id : GlobalId) →
      constructor_of (with_constructors f cs Fs) id ≡ either (constructor_from f 0 cs id) (constructor_of Fs id)
  given-places id =
      ap (λ Gs. constructor_of Gs id) given-among
      ∙ constructor_of-inserted (given_constructors cs F) rest id given-apart
      ∙ ap (λ i. either (constructor_from i 0 cs id) (constructor_of rest id)) its_id
      ∙ ap (either (constructor_from f 0 cs id)) (sym (same_of_rest id))

  pub given-differ : constructors_differ Fs ≡ true → ids_differ (map constructor_id cs) ≡ true →
      constructors_differ (with_constructors f cs Fs) ≡ true
  given-differ differ own =
      ap constructors_differ given-among
      ∙ differ-inserted (given_constructors cs F) rest
      (differ-filter (λ G. not (same_id G.id f)) Fs differ) own absent_of_rest given-apart

  pub given-counted : all_results_counted Fs ≡ true → results_counted (given_constructors cs F).family ≡ true →
      all_results_counted (with_constructors f cs Fs) ≡ true
  given-counted counted own =
      ap all_results_counted given-among
      ∙ all-inserted family_id (λ G. results_counted G.family) (given_constructors cs F) rest own
      (all-filter (λ G. results_counted G.family) (λ G. not (same_id G.id f)) Fs counted)

-- ---- the code's families
-- a family that stands there without constructors
abbrev pub Bare : Globals → GlobalId → Type 0
Bare g f = (F : FamilyEntry) × ((with_id family_id f (families g) ≡ Some F) × (F.constructors ≡ []))

module _ (g : Globals) (f : GlobalId) (cs : List code_constructor.Constructor) (can : CanGive g f cs) where
  abbrev pub new_ones : List ConstructorEntry
  new_ones = map constructor_entry cs

  pub bare-family : Bare g f
  bare-family = by_case (with_id family_id f (families g)) refl can.bare
    where
      by_case : (o : Option FamilyEntry) → with_id family_id f (families g) ≡ o →
          option_map (λ F. F.constructors) o ≡ Some [] → Bare g f
      by_case None e h = absurd (cc h)
      by_case (Some F) e h = (F, (e, some-injective h))

  pub all-new : list_all (λ c. is_none (constructor_of (families g) c.id)) new_ones ≡ true
  all-new = each cs can.absent
    where
      each : (ds : List code_constructor.Constructor) → list_all (λ c. is_absent g c.id) ds ≡ true →
          list_all (λ c. is_none (constructor_of (families g) c.id)) (map constructor_entry ds) ≡ true
      each [] h = refl
      each (d ∷ ds) h =
          let parts = and_parts (is_absent g d.id) (list_all (λ c. is_absent g c.id) ds) h in
          let behind = is_none (constructor_of (families g) d.id) && is_none
          (with_id definition_id d.id (definitions g)) in
          let here = (and_parts (is_none (with_id family_id d.id (families g))) behind parts.0).1 in
          and_from (is_none (constructor_of (families g) d.id))
          (list_all (λ c. is_none (constructor_of (families g) c.id)) (map constructor_entry ds))
          (and_parts (is_none (constructor_of (families g) d.id)) (is_none (with_id definition_id d.id (definitions g)))
          here).0 (each ds parts.1)

  own-counted : results_counted (given_constructors new_ones bare-family.0).family ≡ true
  own-counted =
      subst (λ o. elim o [ None ↦ true | Some F ↦ results_counted (given_constructors new_ones F).family ] ≡ true)
      bare-family.1.0 can.counted

  pub places-can : (ps : List Place) → ((id : GlobalId) → place_of ps id ≡ constructor_of (families g) id) →
      CanInsertAll place_id (places_from f 0 new_ones) ps
  places-can ps are =
      can_insert_all place_id (places_from f 0 new_ones) ps
      (ap ids_differ (places_from-ids f 0 new_ones) ∙ can.differ)
      (can_place f 0 new_ones ps (families g) are all-new)

  -- the places and the families afterwards
  pub places-ascend : (qs : List Place) → qs ≡ all_inserted place_id (places_from f 0 new_ones) g.places.items →
      ascends place_id qs ≡ true
  places-ascend qs placed = ap (ascends place_id) placed
      ∙ ascends-all_inserted place_id (places_from f 0 new_ones) g.places.items g.places_ascend
      (places-can g.places.items g.places_are)

  module _ (Fs : List FamilyEntry) (given : Fs ≡ with_constructors f new_ones (families g)) where
    pub families-ascend : ascends family_id Fs ≡ true
    families-ascend = ap (ascends family_id) given
        ∙ ascends-changed family_id f (given_constructors new_ones) (families g) (λ F. refl) ∙ g.families_ascend

    pub constructors-differ : constructors_differ Fs ≡ true
    constructors-differ = ap constructors_differ given
        ∙ given-differ f bare-family.0 (families g) new_ones g.families_ascend bare-family.1.0 bare-family.1.1 all-new
        g.constructors_differ can.differ

    pub all-counted : all_results_counted Fs ≡ true
    all-counted = ap all_results_counted given
        ∙ given-counted f bare-family.0 (families g) new_ones g.families_ascend bare-family.1.0 bare-family.1.1 all-new
        g.results_counted own-counted

    pub places-are : (qs : List Place) → qs ≡ all_inserted place_id (places_from f 0 new_ones) g.places.items →
        (id : GlobalId) → place_of qs id ≡ constructor_of Fs id
    places-are qs placed id =
        ap (λ rs. place_of rs id) placed
        ∙ place_of-all_inserted (places_from f 0 new_ones) g.places.items id
        (places-can g.places.items g.places_are)
        ∙ ap (λ o. either o (place_of g.places.items id)) (place_of-places_from f 0 new_ones id)
        ∙ ap (either (constructor_from f 0 new_ones id)) (g.places_are id)
        ∙ sym (given-places f bare-family.0 (families g) new_ones g.families_ascend bare-family.1.0 bare-family.1.1
        all-new id)
        ∙ sym (ap (λ Gs. constructor_of Gs id) given)
