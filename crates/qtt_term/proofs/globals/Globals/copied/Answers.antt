use Rattle.std.proofs.Common.{map, ap, sym, ◌∙◌}
use Rattle.std.specs.List.{filter}
use Rattle.qtt_term.specs.Keyed.{ascends, is_of}
use Rattle.qtt_term.specs.Items.{family_entry, definition_entry, family_id, definition_id, constructor_of, constructors_differ, body_closed, all_bodies_closed, results_counted, all_results_counted}
use Rattle.qtt_term.specs.Places.{place_id, place_of}
use Rattle.qtt_term.specs.Globals.{families, definitions}
use Rattle.qtt_term.proofs.Order.{all-filter, ascends-filter, only}
use Rattle.qtt_term.proofs.Constructors.{constructor_of-filter, differ-filter, place_of-filter}
use Rattle.qtt_term.proofs.globals.Globals.copied.Goals as goal

pub invariant_of-result-clause-families_ascend : goal.invariant_of-result-clause-families_ascend
invariant_of-result-clause-families_ascend c =
    let g = c.args.self.now in
    ap (ascends family_id) (c.in_ok-copied_families.ensures ∙
    ap (λ Fs. filter (λ F. is_of c.args.of F.id) (map family_entry Fs)) c.deref.ensures.value)
    ∙ ascends-filter family_id (λ F. is_of c.args.of F.id) (families g) g.families_ascend

pub invariant_of-result-clause-definitions_ascend : goal.invariant_of-result-clause-definitions_ascend
invariant_of-result-clause-definitions_ascend c =
    let g = c.args.self.now in
    ap (ascends definition_id)
    (c.in_ok-copied_definitions.ensures ∙
    ap (λ ds. filter (λ d. is_of c.args.of d.id) (map definition_entry ds)) c.deref-2.ensures.value)
    ∙ ascends-filter definition_id (λ d. is_of c.args.of d.id) (definitions g) g.definitions_ascend

pub invariant_of-result-clause-places_ascend : goal.invariant_of-result-clause-places_ascend
invariant_of-result-clause-places_ascend c =
    let g = c.args.self.now in
    ap (ascends place_id) (c.in_ok-copied_places.ensures ∙ ap (filter (λ p. is_of c.args.of p.con.family))
    c.deref-3.ensures.value)
    ∙ ascends-filter place_id (λ p. is_of c.args.of p.con.family) g.places.items g.places_ascend

pub invariant_of-result-clause-constructors_differ : goal.invariant_of-result-clause-constructors_differ
invariant_of-result-clause-constructors_differ c =
    let g = c.args.self.now in
    ap constructors_differ (c.in_ok-copied_families.ensures ∙
    ap (λ Fs. filter (λ F. is_of c.args.of F.id) (map family_entry Fs)) c.deref.ensures.value)
    ∙ differ-filter (λ F. is_of c.args.of F.id) (families g) g.constructors_differ

pub invariant_of-result-clause-places_are : goal.invariant_of-result-clause-places_are
invariant_of-result-clause-places_are c id =
    let g = c.args.self.now in
    let p = is_of c.args.of in
    ap (λ ps. place_of ps id)
    (c.in_ok-copied_places.ensures ∙ ap (filter (λ x. p x.con.family)) c.deref-3.ensures.value)
    ∙ place_of-filter p g.places.items id g.places_ascend ∙ ap (only (λ con. p con.family)) (g.places_are id)
    ∙ sym (constructor_of-filter p (families g) id g.constructors_differ)
    ∙ sym (ap (λ Fs. constructor_of Fs id)
    (c.in_ok-copied_families.ensures ∙ ap (λ Fs. filter (λ F. p F.id) (map family_entry Fs))
    c.deref.ensures.value))

pub invariant_of-result-clause-bodies_closed : goal.invariant_of-result-clause-bodies_closed
invariant_of-result-clause-bodies_closed c =
    let g = c.args.self.now in
    ap all_bodies_closed (c.in_ok-copied_definitions.ensures ∙
    ap (λ ds. filter (λ d. is_of c.args.of d.id) (map definition_entry ds)) c.deref-2.ensures.value)
    ∙ all-filter (λ d. body_closed d.definition) (λ d. is_of c.args.of d.id) (definitions g) g.bodies_closed

pub invariant_of-result-clause-results_counted : goal.invariant_of-result-clause-results_counted
invariant_of-result-clause-results_counted c =
    let g = c.args.self.now in
    ap all_results_counted (c.in_ok-copied_families.ensures ∙
    ap (λ Fs. filter (λ F. is_of c.args.of F.id) (map family_entry Fs)) c.deref.ensures.value)
    ∙ all-filter (λ F. results_counted F.family) (λ F. is_of c.args.of F.id) (families g) g.results_counted
