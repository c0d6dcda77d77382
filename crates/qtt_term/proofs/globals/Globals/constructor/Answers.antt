use Rattle.std.proofs.Common.{◌≡◌, Some, option_map, slice_get, ap, sym, ◌∙◌}
use Rattle.std.proofs.lemmas.Simd.{map-map}
use Rattle.qtt_base.specs.declared.place.GlobalId.{GlobalId}
use Rattle.qtt_term.specs.declared.globals.Globals.{Globals}
use Rattle.qtt_term.specs.declared.globals.Place.{Place}
use Rattle.qtt_term.specs.Keyed.{with_id}
use Rattle.qtt_term.specs.Items.{family_entry, family_id, constructor_entry, constructor_id, constructor_of}
use Rattle.qtt_term.specs.Places.{place_id}
use Rattle.qtt_term.specs.Globals.{families}
use Rattle.qtt_term.proofs.Order.{has_id}
use Rattle.qtt_term.proofs.Constructors.{family_there, place_there}
use Rattle.qtt_term.proofs.globals.Globals.constructor.Goals as goal

-- the place that was found is the constructor's
place_is : (g : Globals) (id : GlobalId) (p : Place) → Some p ≡ with_id place_id id g.places.items →
    constructor_of (families g) id ≡ Some p.con
place_is g id p e = sym (g.places_are id) ∙ ap (option_map (λ x. x.con)) (sym e)

pub unreachable-requires : goal.unreachable-requires
unreachable-requires c =
    let g = c.args.self.now in
    let p = c.in-Some.place.now in
    let con = place_is g c.args.id p (c.in-Some.ensures ∙ ap (with_id place_id c.args.id) c.deref.ensures.value) in
    family_there (families g) c.args.id p.con con (sym c.in-None-family.ensures.found)

pub returns-clause-found : goal.returns-clause-found
returns-clause-found c =
    let g = c.args.self.now in
    let p = c.in-Some.place.now in
    let con = place_is g c.args.id p (c.in-Some.ensures ∙ ap (with_id place_id c.args.id) c.deref.ensures.value) in
    let F = family_entry c.in-Some-family.family.now in
    let family = has_id family_id p.con.family (families g) F (sym c.in-Some-family.ensures.found) in
    con ∙ ap (λ f. Some (record { family = f; place = p.con.place })) (sym family)

pub returns-clause-family : goal.returns-clause-family
returns-clause-family c =
    let g = c.args.self.now in
    let f = c.in-Some.place.now.con.family in
    let F = family_entry c.in-Some-family.family.now in
    ap (λ i. with_id family_id i (families g))
    (has_id family_id f (families g) F (sym c.in-Some-family.ensures.found)) ∙
    sym c.in-Some-family.ensures.found

pub returns-clause-place : goal.returns-clause-place
returns-clause-place c =
    let g = c.args.self.now in
    let p = c.in-Some.place.now in
    let con = place_is g c.args.id p (c.in-Some.ensures ∙ ap (with_id place_id c.args.id) c.deref.ensures.value) in
    let F = c.in-Some-family.family.now in
    sym (ap (λ is. slice_get is p.con.place) (map-map constructor_id constructor_entry F.constructors.items))
    ∙ place_there (families g) c.args.id p.con (family_entry F) g.families_ascend con
    (sym c.in-Some-family.ensures.found)
