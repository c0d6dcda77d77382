use Rattle.std.proofs.Common.{◌≡◌, None, is_none, map, ◌⊎◌, inl, inr, true, ◌&&◌, refl, ap, sym, subst, ◌∙◌}
use Rattle.std.proofs.lemmas.Bool.{and_parts}
use Rattle.qtt_base.specs.declared.place.GlobalId.{GlobalId}
use Rattle.qtt_term.specs.declared.globals.Globals.{Globals}
use Rattle.qtt_term.specs.Question.{either}
use Rattle.qtt_term.specs.Keyed.{ascends, with_id, all_inserted, CanInsertAll}
use Rattle.qtt_term.specs.Items.{family_entry, definition_entry, family_id, definition_id, constructor_of, constructors_differ, body_closed, all_bodies_closed, results_counted, all_results_counted}
use Rattle.qtt_term.specs.Places.{place_id, place_of}
use Rattle.qtt_term.specs.Globals.{families, definitions, IsAbsent}
use Rattle.qtt_term.proofs.Order.{none_is, disjoint-insert, ascends-all_inserted}
use Rattle.qtt_term.proofs.Entries.{absent_below, ascends_below, grown_all}
use Rattle.qtt_term.proofs.Constructors.{AllApart, no_place, place_of-all_inserted, constructor_of-all_inserted, differ-all_inserted}
use Rattle.qtt_term.proofs.Kept.{all-all_inserted}
use Rattle.qtt_term.proofs.globals.Globals.adopt.Goals as goal

-- what is absent
module _ (g : Globals) (id : GlobalId) (absent : IsAbsent g id) where
  others : is_none (constructor_of (families g) id) && is_none (with_id definition_id id (definitions g)) ≡ true
  others = (and_parts (is_none (with_id family_id id (families g)))
      (is_none (constructor_of (families g) id) && is_none (with_id definition_id id (definitions g))) absent).1

  no_family : with_id family_id id (families g) ≡ None
  no_family =
      none_is (with_id family_id id (families g))
      (and_parts (is_none (with_id family_id id (families g)))
      (is_none (constructor_of (families g) id) && is_none (with_id definition_id id (definitions g)))
      absent).0

  no_constructor : constructor_of (families g) id ≡ None
  no_constructor =
      none_is (constructor_of (families g) id)
      (and_parts (is_none (constructor_of (families g) id))
      (is_none (with_id definition_id id (definitions g))) others).0

  no_definition : with_id definition_id id (definitions g) ≡ None
  no_definition =
      none_is (with_id definition_id id (definitions g))
      (and_parts (is_none (constructor_of (families g) id))
      (is_none (with_id definition_id id (definitions g))) others).1

-- an environment g and a part p that share no id, with a copy h of the part
module _ (g h p : Globals) (fs : families h ≡ families p) (ds : definitions h ≡ definitions p)
    (apart : (id : GlobalId) → IsAbsent g id ⊎ IsAbsent p id) where
  families_apart : (id : GlobalId) →
      (with_id family_id id (families g) ≡ None) ⊎ (with_id family_id id (families h) ≡ None)
  families_apart id = elim (apart id)
      [ inl e ↦ inl (no_family g id e) | inr e ↦ inr (ap (with_id family_id id) fs ∙ no_family p id e) ]

  definitions_apart : (id : GlobalId) →
      (with_id definition_id id (definitions g) ≡ None) ⊎ (with_id definition_id id (definitions h) ≡ None)
  definitions_apart id = elim (apart id) [
    | inl e ↦ inl (no_definition g id e)
    | inr e ↦ inr (ap (with_id definition_id id) ds ∙ no_definition p id e)
  ]

  constructors_apart : AllApart (families h) (families g)
  constructors_apart id = elim (apart id) [
    | inl e ↦ inr (no_constructor g id e)
    | inr e ↦
        inl (ap (λ Fs. constructor_of Fs id) fs ∙ no_constructor p id e)
  ]

  places_apart : (id : GlobalId) →
      (with_id place_id id g.places.items ≡ None) ⊎ (with_id place_id id h.places.items ≡ None)
  places_apart id = elim (constructors_apart id) [
    | inl e ↦ inr (no_place h.places.items id (h.places_are id ∙ e))
    | inr e ↦ inl (no_place g.places.items id (g.places_are id ∙ e))
  ]

  families_can : CanInsertAll (λ F. family_id (family_entry F)) h.families.items g.families.items
  families_can =
      disjoint-insert (λ F. family_id (family_entry F)) h.families.items g.families.items
      (ascends_below family_entry family_id h.families.items h.families.items refl h.families_ascend)
      (λ id. elim (families_apart id) [
        | inl e ↦ inl (absent_below family_entry family_id id g.families.items e)
        | inr e ↦ inr (absent_below family_entry family_id id h.families.items e)
      ])

  definitions_can : CanInsertAll (λ d. definition_id (definition_entry d)) h.definitions.items g.definitions.items
  definitions_can =
      disjoint-insert (λ d. definition_id (definition_entry d)) h.definitions.items g.definitions.items
      (ascends_below definition_entry definition_id h.definitions.items h.definitions.items refl
      h.definitions_ascend) (λ id. elim (definitions_apart id) [
        | inl e ↦ inl (absent_below definition_entry definition_id id g.definitions.items e)
        | inr e ↦ inr (absent_below definition_entry definition_id id h.definitions.items e)
      ])

  places_can : CanInsertAll place_id h.places.items g.places.items
  places_can = disjoint-insert place_id h.places.items g.places.items h.places_ascend places_apart

  all_families_ascend : ascends family_id (all_inserted family_id (families h) (families g)) ≡ true
  all_families_ascend =
      ascends-all_inserted family_id (families h) (families g) g.families_ascend
      (disjoint-insert family_id (families h) (families g) h.families_ascend families_apart)

  all_definitions_ascend : ascends definition_id (all_inserted definition_id (definitions h) (definitions g)) ≡ true
  all_definitions_ascend =
      ascends-all_inserted definition_id (definitions h) (definitions g) g.definitions_ascend
      (disjoint-insert definition_id (definitions h) (definitions g) h.definitions_ascend definitions_apart)

  all_differ : constructors_differ (all_inserted family_id (families h) (families g)) ≡ true
  all_differ = differ-all_inserted (families h) (families g) h.constructors_differ g.constructors_differ
      constructors_apart

  all_places_are : (id : GlobalId) →
      place_of (all_inserted place_id h.places.items g.places.items) id ≡ constructor_of
      (all_inserted family_id (families h) (families g)) id
  all_places_are id =
      place_of-all_inserted h.places.items g.places.items id places_can ∙
      ap (λ o. either o (place_of g.places.items id)) (h.places_are id)
      ∙ ap (either (constructor_of (families h) id)) (g.places_are id)
      ∙ sym (constructor_of-all_inserted (families h) (families g) id h.constructors_differ constructors_apart)

pub place_all-requires-clause-ascend : goal.place_all-requires-clause-ascend
place_all-requires-clause-ascend c =
    let g = c.args.self.now in
    ascends_below family_entry family_id g.families.items c.reserve.new.self.items c.reserve.ensures.items
    g.families_ascend

pub place_all-requires-clause-new_ids : goal.place_all-requires-clause-new_ids
place_all-requires-clause-new_ids c =
    let h = c.in_ok-families.field-0 in
    subst (CanInsertAll (λ F. family_id (family_entry F)) h.families.items) (sym c.reserve.ensures.items)
    (families_can c.args.self.now h c.args.part.now c.in_ok-families.ensures.families
    c.in_ok-families.ensures.definitions c.requires)

pub place_all-requires-2-clause-ascend : goal.place_all-requires-2-clause-ascend
place_all-requires-2-clause-ascend c =
    let g = c.args.self.now in
    ascends_below definition_entry definition_id g.definitions.items c.reserve-2.new.self.items
    c.reserve-2.ensures.items g.definitions_ascend

pub place_all-requires-2-clause-new_ids : goal.place_all-requires-2-clause-new_ids
place_all-requires-2-clause-new_ids c =
    let h = c.in_ok-families.field-0 in
    subst (CanInsertAll (λ d. definition_id (definition_entry d)) h.definitions.items) (sym c.reserve-2.ensures.items)
    (definitions_can c.args.self.now h c.args.part.now c.in_ok-families.ensures.families
    c.in_ok-families.ensures.definitions c.requires)

pub place_all-requires-3-clause-new_ids : goal.place_all-requires-3-clause-new_ids
place_all-requires-3-clause-new_ids c =
    let h = c.in_ok-families.field-0 in
    subst (CanInsertAll place_id h.places.items) (sym c.reserve-3.ensures.items)
    (places_can c.args.self.now h c.args.part.now c.in_ok-families.ensures.families
    c.in_ok-families.ensures.definitions c.requires)

all_families : (c : goal.After-place_all-3) →
    map family_entry c.place_all.new.items.items ≡ all_inserted family_id (families c.in_ok-families.field-0)
    (families c.args.self.now)
all_families c =
    grown_all family_entry family_id c.in_ok-families.field-0.families.items c.args.self.now.families.items
    c.reserve.new.self.items c.place_all.new.items.items
    c.place_all.ensures c.reserve.ensures.items

all_definitions : (c : goal.After-place_all-3) →
    map definition_entry c.place_all-2.new.items.items ≡ all_inserted definition_id
    (definitions c.in_ok-families.field-0) (definitions c.args.self.now)
all_definitions c =
    grown_all definition_entry definition_id c.in_ok-families.field-0.definitions.items
    c.args.self.now.definitions.items c.reserve-2.new.self.items
    c.place_all-2.new.items.items c.place_all-2.ensures c.reserve-2.ensures.items

all_places : (c : goal.After-place_all-3) →
    c.place_all-3.new.items.items ≡ all_inserted place_id c.in_ok-families.field-0.places.items
    c.args.self.now.places.items
all_places c = c.place_all-3.ensures ∙ ap (all_inserted place_id c.in_ok-families.field-0.places.items)
    c.reserve-3.ensures.items

pub invariant_of-self-2-clause-families_ascend : goal.invariant_of-self-2-clause-families_ascend
invariant_of-self-2-clause-families_ascend c =
    ap (ascends family_id) (all_families c)
    ∙ all_families_ascend c.args.self.now c.in_ok-families.field-0 c.args.part.now
    c.in_ok-families.ensures.families c.in_ok-families.ensures.definitions c.requires

pub invariant_of-self-2-clause-definitions_ascend : goal.invariant_of-self-2-clause-definitions_ascend
invariant_of-self-2-clause-definitions_ascend c =
    let h = c.in_ok-families.field-0 in
    ap (ascends definition_id) (all_definitions c)
    ∙ all_definitions_ascend c.args.self.now h c.args.part.now c.in_ok-families.ensures.families
    c.in_ok-families.ensures.definitions c.requires

pub invariant_of-self-2-clause-places_ascend : goal.invariant_of-self-2-clause-places_ascend
invariant_of-self-2-clause-places_ascend c =
    let g = c.args.self.now in
    let h = c.in_ok-families.field-0 in
    ap (ascends place_id) (all_places c)
    ∙ ascends-all_inserted place_id h.places.items g.places.items g.places_ascend
    (places_can g h c.args.part.now c.in_ok-families.ensures.families c.in_ok-families.ensures.definitions c.requires)

pub invariant_of-self-2-clause-constructors_differ : goal.invariant_of-self-2-clause-constructors_differ
invariant_of-self-2-clause-constructors_differ c =
    ap constructors_differ (all_families c)
    ∙ all_differ c.args.self.now c.in_ok-families.field-0 c.args.part.now c.in_ok-families.ensures.families
    c.in_ok-families.ensures.definitions c.requires

pub invariant_of-self-2-clause-places_are : goal.invariant_of-self-2-clause-places_are
invariant_of-self-2-clause-places_are c id =
    ap (λ ps. place_of ps id) (all_places c)
    ∙ all_places_are c.args.self.now c.in_ok-families.field-0 c.args.part.now c.in_ok-families.ensures.families
    c.in_ok-families.ensures.definitions c.requires id
    ∙ sym (ap (λ Fs. constructor_of Fs id) (all_families c))

pub invariant_of-self-2-clause-bodies_closed : goal.invariant_of-self-2-clause-bodies_closed
invariant_of-self-2-clause-bodies_closed c =
    let g = c.args.self.now in
    let h = c.in_ok-families.field-0 in
    ap all_bodies_closed (all_definitions c)
    ∙ all-all_inserted definition_id (λ d. body_closed d.definition) (definitions h)
    (definitions g) h.bodies_closed g.bodies_closed

pub invariant_of-self-2-clause-results_counted : goal.invariant_of-self-2-clause-results_counted
invariant_of-self-2-clause-results_counted c =
    let g = c.args.self.now in
    let h = c.in_ok-families.field-0 in
    ap all_results_counted (all_families c)
    ∙ all-all_inserted family_id (λ F. results_counted F.family) (families h)
    (families g) h.results_counted g.results_counted

pub returns-clause-families : goal.returns-clause-families
returns-clause-families c =
    let h = c.in_ok-families.field-0 in
    grown_all family_entry family_id h.families.items c.args.self.now.families.items c.reserve.new.self.items
    c.place_all.new.items.items
    c.place_all.ensures c.reserve.ensures.items
    ∙ ap (λ Fs. all_inserted family_id Fs (families c.args.self.now)) c.in_ok-families.ensures.families

pub returns-clause-definitions : goal.returns-clause-definitions
returns-clause-definitions c =
    let h = c.in_ok-families.field-0 in
    grown_all definition_entry definition_id h.definitions.items c.args.self.now.definitions.items
    c.reserve-2.new.self.items c.place_all-2.new.items.items
    c.place_all-2.ensures c.reserve-2.ensures.items
    ∙ ap (λ ds. all_inserted definition_id ds (definitions c.args.self.now)) c.in_ok-families.ensures.definitions
