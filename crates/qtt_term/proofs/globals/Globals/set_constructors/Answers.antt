use Rattle.std.proofs.Common.{◌≡◌, ℕ, List, [], ◌∷◌, map, get_or, true, option_map, ap, sym, subst, ◌∙◌, refl}
use Rattle.std.proofs.Math.ListN.{set}
use Rattle.std.proofs.lemmas.List.{get_or_default}
use Rattle.qtt_base.specs.declared.place.GlobalId.{GlobalId}
use Rattle.qtt_term.specs.declared.items.Constructor as code_constructor
use Rattle.qtt_term.specs.declared.items.Family as code
use Rattle.qtt_term.specs.Keyed.{ascends, with_id, all_inserted, CanInsertAll, IsPlaceOf}
use Rattle.qtt_term.specs.Items.{FamilyEntry, constructor, family, constructor_entry, family_entry, family_id, given_constructors, with_constructors}
use Rattle.qtt_term.specs.Places.{place_id, places_from}
use Rattle.qtt_term.specs.Globals.{families}
use Rattle.qtt_term.proofs.Order.{place_has_id, set-changed, with_id-map}
use Rattle.qtt_term.proofs.Entries.{ascends_below}
use Rattle.qtt_term.proofs.Giving.{places-can, families-ascend, constructors-differ, all-counted, places-ascend, places-are}
use Rattle.qtt_term.proofs.globals.Globals.set_constructors.Goals as goal

pub search-requires : goal.search-requires
search-requires c =
    ascends_below family_entry family_id c.args.self.now.families.items c.deref.result.now c.deref.ensures.value
    c.args.self.now.families_ascend

pub unreachable-requires : goal.unreachable-requires
unreachable-requires c =
    let old = c.args.self.now.families.items in
    let id = c.args.family in
    let here = with_id-map family_entry family_id id old in
    let none = ap (with_id (λ x. family_id (family_entry x)) id) (sym c.deref.ensures.value) ∙
    c.in-Err.ensures.absent.absent in
    cc (sym c.requires.bare ∙ ap (option_map (λ F. F.constructors)) (here ∙ ap (option_map family_entry) none))

pub place_all-requires-clause-new_ids : goal.place_all-requires-clause-new_ids
place_all-requires-clause-new_ids c =
    let g = c.args.self.now in
    let cs = c.args.constructors.items in
    subst (λ ps. CanInsertAll place_id ps c.reserve.new.self.items)
    (sym (c.in_ok-places.ensures ∙ ap (λ ds. places_from c.args.family 0 (map constructor_entry ds))
    c.deref-2.ensures.value))
    (subst (CanInsertAll place_id (places_from c.args.family 0 (map constructor_entry cs)))
    (sym c.reserve.ensures.items) (places-can g c.args.family cs c.requires g.places.items g.places_are))

-- a family with these constructors in place of its own
abbrev given_these : code.Family → List code_constructor.Constructor → FamilyEntry
given_these F cs = record {
  id = F.id;
  name = F.name;
  family = record {
    params = (family F).params;
    indices = (family F).indices;
    level = F.level;
    constructors = map constructor cs;
  };
  constructors = map constructor_entry cs;
}

given_these-is : (F : code.Family) (cs : List code_constructor.Constructor) →
    given_these F cs ≡ given_constructors (map constructor_entry cs) (family_entry F)
given_these-is F cs =
    ap (λ ds. record {
      id = F.id;
      name = F.name;
      family = record { params = (family F).params; indices = (family F).indices; level = F.level; constructors = ds };
      constructors = map constructor_entry cs;
    }) (seen cs)
  where
    seen : (cs : List code_constructor.Constructor) →
        map constructor cs ≡ map (λ c. c.constructor) (map constructor_entry cs)
    seen [] = refl
    seen (c ∷ cs) = ap (λ ds. constructor c ∷ ds) (seen cs)

-- the families afterwards
after : (old found : List code.Family) (f : GlobalId) (i : ℕ) (F x : code.Family)
    (cs : List code_constructor.Constructor) →
    found ≡ old → ascends family_id (map family_entry old) ≡ true →
    IsPlaceOf (λ y. family_id (family_entry y)) f found i → F ≡ get_or old i F →
    family_entry x ≡ given_these F cs →
    map family_entry (set old i x) ≡ with_constructors f (map constructor_entry cs) (map family_entry old)
after old found f i F x cs e up h at is =
    let here = subst (λ xs. IsPlaceOf (λ y. family_id (family_entry y)) f xs i) e h in
    set-changed family_entry family_id f (given_constructors (map constructor_entry cs)) old i x up here.in_range
    (λ z. place_has_id (λ y. family_id (family_entry y)) f old i z here)
    (λ z. is ∙ given_these-is F cs ∙ ap (λ y. given_constructors (map constructor_entry cs) (family_entry y))
    (at ∙ get_or_default old i F z here.in_range))

pub returns-clause-ok : goal.returns-clause-ok
returns-clause-ok c =
    after c.args.self.now.families.items c.deref.result.now c.args.family c.in-Ok.at c.index_mut.result.now _
    c.args.constructors.items c.deref.ensures.value c.args.self.now.families_ascend
    c.in-Ok.ensures.found c.index_mut.ensures.value refl

pub invariant_of-self-2-clause-families_ascend : goal.invariant_of-self-2-clause-families_ascend
invariant_of-self-2-clause-families_ascend c =
    let g = c.args.self.now in
    let cs = c.args.constructors.items in
    families-ascend g c.args.family cs c.requires _
    (after g.families.items c.deref.result.now c.args.family c.in-Ok.at c.index_mut.result.now _
    cs c.deref.ensures.value g.families_ascend c.in-Ok.ensures.found
    c.index_mut.ensures.value refl)

pub invariant_of-self-2-clause-constructors_differ : goal.invariant_of-self-2-clause-constructors_differ
invariant_of-self-2-clause-constructors_differ c =
    let g = c.args.self.now in
    let cs = c.args.constructors.items in
    constructors-differ g c.args.family cs c.requires _
    (after g.families.items c.deref.result.now c.args.family c.in-Ok.at c.index_mut.result.now _
    cs c.deref.ensures.value g.families_ascend c.in-Ok.ensures.found
    c.index_mut.ensures.value refl)

pub invariant_of-self-2-clause-results_counted : goal.invariant_of-self-2-clause-results_counted
invariant_of-self-2-clause-results_counted c =
    let g = c.args.self.now in
    let cs = c.args.constructors.items in
    all-counted g c.args.family cs c.requires _
    (after g.families.items c.deref.result.now c.args.family c.in-Ok.at c.index_mut.result.now _
    cs c.deref.ensures.value g.families_ascend c.in-Ok.ensures.found
    c.index_mut.ensures.value refl)

pub invariant_of-self-2-clause-places_ascend : goal.invariant_of-self-2-clause-places_ascend
invariant_of-self-2-clause-places_ascend c =
    let g = c.args.self.now in
    let cs = c.args.constructors.items in
    places-ascend g c.args.family cs c.requires c.place_all.new.items.items
    (c.place_all.ensures
    ∙ ap (λ ps. all_inserted place_id ps c.reserve.new.self.items)
    (c.in_ok-places.ensures ∙ ap (λ ds. places_from c.args.family 0 (map constructor_entry ds))
    c.deref-2.ensures.value)
    ∙ ap (all_inserted place_id (places_from c.args.family 0 (map constructor_entry cs))) c.reserve.ensures.items)

pub invariant_of-self-2-clause-places_are : goal.invariant_of-self-2-clause-places_are
invariant_of-self-2-clause-places_are c id =
    let g = c.args.self.now in
    let cs = c.args.constructors.items in
    places-are g c.args.family cs c.requires _
    (after g.families.items c.deref.result.now c.args.family c.in-Ok.at c.index_mut.result.now _
    cs c.deref.ensures.value g.families_ascend c.in-Ok.ensures.found
    c.index_mut.ensures.value refl) c.place_all.new.items.items
    (c.place_all.ensures
    ∙ ap (λ ps. all_inserted place_id ps c.reserve.new.self.items)
    (c.in_ok-places.ensures ∙ ap (λ ds. places_from c.args.family 0 (map constructor_entry ds))
    c.deref-2.ensures.value)
    ∙ ap (all_inserted place_id (places_from c.args.family 0 (map constructor_entry cs))) c.reserve.ensures.items) id
