use Rattle.std.proofs.Common.{◌≡◌, List, ◌∷◌, [], map, true, None, is_none, not, ◌&&◌, refl, ap, sym, subst, ◌∙◌}
use Rattle.std.specs.List.{list_all}
use Rattle.std.proofs.lemmas.Bool.{and_parts, and_from}
use Rattle.qtt_base.specs.declared.place.GlobalId.{GlobalId}
use Rattle.qtt_term.specs.declared.globals.Place.{Place}
use Rattle.qtt_term.specs.declared.globals.Globals.{Globals}
use Rattle.qtt_term.specs.Term.{same_id}
use Rattle.qtt_term.specs.Question.{either}
use Rattle.qtt_term.specs.Keyed.{ascends, with_id, inserted, all_inserted, ids_differ, CanInsertAll}
use Rattle.qtt_term.specs.Items.{ConstructorEntry, FamilyEntry, constructor_entry, family_entry, constructor_id, family_id, definition_id, constructor_in, constructor_of, constructors_differ, results_counted, all_results_counted}
use Rattle.qtt_term.specs.Places.{place_id, place_of, places_from}
use Rattle.qtt_term.specs.Globals.{families, definitions, IsNew, is_absent}
use Rattle.qtt_term.proofs.Order.{all-inserted, ascends-inserted, ascends-all_inserted, can_insert_all, none_is}
use Rattle.qtt_term.proofs.Constructors.{Apart, apart, can_place, place_of-places_from, places_from-ids, place_of-all_inserted, constructor_of-inserted, differ-inserted}
use Rattle.qtt_term.proofs.Entries.{absent_below, ascends_below, grown}
use Rattle.qtt_term.proofs.globals.Globals.add_family.Goals as goal

-- what a new family is to the others
module _ (g : Globals) (F : FamilyEntry) (new : IsNew g F) where
  id_absent : is_absent g F.id ≡ true
  id_absent = (and_parts (is_absent g F.id) (list_all (is_absent g) (map constructor_id F.constructors)) new.absent).0

  family_absent : with_id family_id F.id (families g) ≡ None
  family_absent =
      let rest = is_none (constructor_of (families g) F.id) && is_none (with_id (λ d. d.id) F.id (definitions g)) in
      none_is (with_id family_id F.id (families g))
      (and_parts (is_none (with_id family_id F.id (families g))) rest id_absent).0

  own_differ : ids_differ (map constructor_id F.constructors) ≡ true
  own_differ = (and_parts (list_all (λ b. not (same_id F.id b)) (map constructor_id F.constructors))
      (ids_differ (map constructor_id F.constructors)) new.differ).1

  constructors_absent : list_all (λ c. is_none (constructor_of (families g) c.id)) F.constructors ≡ true
  constructors_absent = each F.constructors
      (and_parts (is_absent g F.id) (list_all (is_absent g) (map constructor_id F.constructors)) new.absent).1
    where
      each : (cs : List ConstructorEntry) → list_all (is_absent g) (map constructor_id cs) ≡ true →
          list_all (λ c. is_none (constructor_of (families g) c.id)) cs ≡ true
      each [] h = refl
      each (c ∷ cs) h =
          let parts = and_parts (is_absent g c.id) (list_all (is_absent g) (map constructor_id cs)) h in
          let others = is_none (constructor_of (families g) c.id) && is_none
          (with_id definition_id c.id (definitions g)) in
          let here = (and_parts (is_none (with_id family_id c.id (families g))) others parts.0).1 in
          and_from (is_none (constructor_of (families g) c.id))
          (list_all (λ d. is_none (constructor_of (families g) d.id)) cs)
          (and_parts (is_none (constructor_of (families g) c.id))
          (is_none (with_id definition_id c.id (definitions g))) here).0 (each cs parts.1)

  apart_from_others : Apart F (families g)
  apart_from_others = apart F (families g) constructors_absent

  places_can : (ps : List Place) → ((id : GlobalId) → place_of ps id ≡ constructor_of (families g) id) →
      CanInsertAll place_id (places_from F.id 0 F.constructors) ps
  places_can ps are =
      can_insert_all place_id (places_from F.id 0 F.constructors) ps
      (ap ids_differ (places_from-ids F.id 0 F.constructors) ∙ own_differ)
      (can_place F.id 0 F.constructors ps (families g) are constructors_absent)

  -- the families and the places afterwards
  module _ (ps qs : List Place) (up : ascends place_id ps ≡ true)
      (are : (id : GlobalId) → place_of ps id ≡ constructor_of (families g) id)
      (placed : qs ≡ all_inserted place_id (places_from F.id 0 F.constructors) ps) where
    new_places_ascend : ascends place_id qs ≡ true
    new_places_ascend = ap (ascends place_id) placed ∙ ascends-all_inserted place_id
        (places_from F.id 0 F.constructors) ps up (places_can ps are)

    new_places_are : (id : GlobalId) → place_of qs id ≡ constructor_of (inserted family_id F (families g)) id
    new_places_are id =
        ap (λ rs. place_of rs id) placed ∙ place_of-all_inserted (places_from F.id 0 F.constructors) ps id
        (places_can ps are)
        ∙ ap (λ o. either o (place_of ps id)) (place_of-places_from F.id 0 F.constructors id) ∙
        ap (either (constructor_in F id)) (are id)
        ∙ sym (constructor_of-inserted F (families g) id apart_from_others)

pub place_all-requires-clause-new_ids : goal.place_all-requires-clause-new_ids
place_all-requires-clause-new_ids c =
    let g = c.args.self.now in
    let F = family_entry c.args.family in
    subst (λ ps. CanInsertAll place_id ps c.reserve.new.self.items)
    (sym (c.in_ok-places.ensures ∙ ap (λ ds. places_from c.args.family.id 0 (map constructor_entry ds))
    c.deref.ensures.value))
    (subst (CanInsertAll place_id (places_from F.id 0 F.constructors)) (sym c.reserve.ensures.items)
    (places_can g F c.requires.new_ids g.places.items g.places_are))

pub place-requires-clause-ascend : goal.place-requires-clause-ascend
place-requires-clause-ascend c =
    ascends_below family_entry family_id c.args.self.now.families.items c.reserve-2.new.self.items
    c.reserve-2.ensures.items c.args.self.now.families_ascend

pub place-requires-clause-new_id : goal.place-requires-clause-new_id
place-requires-clause-new_id c =
    ap (with_id (λ x. family_id (family_entry x)) c.args.family.id) c.reserve-2.ensures.items
    ∙ absent_below family_entry family_id c.args.family.id c.args.self.now.families.items
    (family_absent c.args.self.now (family_entry c.args.family) c.requires.new_ids)

new_families : (c : goal.After-place) →
    map family_entry c.place.new.items.items ≡ inserted family_id (family_entry c.args.family)
    (families c.args.self.now)
new_families c =
    grown family_entry family_id c.args.family c.args.self.now.families.items c.reserve-2.new.self.items
    c.place.new.items.items c.place.ensures.items c.reserve-2.ensures.items

placed : (c : goal.After-place) →
    c.place_all.new.items.items ≡ all_inserted place_id
    (places_from c.args.family.id 0 (map constructor_entry c.args.family.constructors.items))
    c.args.self.now.places.items
placed c =
    c.place_all.ensures
    ∙ ap (λ ps. all_inserted place_id ps c.reserve.new.self.items)
    (c.in_ok-places.ensures ∙ ap (λ ds. places_from c.args.family.id 0 (map constructor_entry ds))
    c.deref.ensures.value)
    ∙ ap (all_inserted place_id
    (places_from c.args.family.id 0 (map constructor_entry c.args.family.constructors.items)))
    c.reserve.ensures.items

pub invariant_of-self-2-clause-families_ascend : goal.invariant_of-self-2-clause-families_ascend
invariant_of-self-2-clause-families_ascend c =
    let g = c.args.self.now in
    let F = family_entry c.args.family in
    ap (ascends family_id) (new_families c) ∙ ascends-inserted family_id F (families g) g.families_ascend
    (family_absent g F c.requires.new_ids)

pub invariant_of-self-2-clause-places_ascend : goal.invariant_of-self-2-clause-places_ascend
invariant_of-self-2-clause-places_ascend c =
    let g = c.args.self.now in
    new_places_ascend g (family_entry c.args.family) c.requires.new_ids g.places.items c.place_all.new.items.items
    g.places_ascend g.places_are (placed c)

pub invariant_of-self-2-clause-constructors_differ : goal.invariant_of-self-2-clause-constructors_differ
invariant_of-self-2-clause-constructors_differ c =
    let g = c.args.self.now in
    let F = family_entry c.args.family in
    let new = c.requires.new_ids in
    ap constructors_differ (new_families c)
    ∙ differ-inserted F (families g) g.constructors_differ (own_differ g F new) (constructors_absent g F new)
    (apart_from_others g F new)

pub invariant_of-self-2-clause-places_are : goal.invariant_of-self-2-clause-places_are
invariant_of-self-2-clause-places_are c id =
    let g = c.args.self.now in
    let F = family_entry c.args.family in
    new_places_are g F c.requires.new_ids g.places.items c.place_all.new.items.items g.places_ascend g.places_are
    (placed c) id
    ∙ sym (ap (λ Fs. constructor_of Fs id) (new_families c))

pub invariant_of-self-2-clause-results_counted : goal.invariant_of-self-2-clause-results_counted
invariant_of-self-2-clause-results_counted c =
    let g = c.args.self.now in
    ap all_results_counted (new_families c)
    ∙ all-inserted family_id (λ F. results_counted F.family) (family_entry c.args.family)
    (families g) c.requires.counted g.results_counted

pub returns-clause-ok : goal.returns-clause-ok
returns-clause-ok c =
    grown family_entry family_id c.args.family c.args.self.now.families.items c.reserve-2.new.self.items
    c.place.new.items.items c.place.ensures.items c.reserve-2.ensures.items
