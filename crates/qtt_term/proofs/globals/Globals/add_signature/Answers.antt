use Rattle.std.proofs.Common.{◌≡◌, None, map, is_none, ◌&&◌, refl, ap, ◌∙◌}
use Rattle.std.proofs.lemmas.Bool.{and_parts}
use Rattle.qtt_base.specs.declared.place.GlobalId.{GlobalId}
use Rattle.qtt_term.specs.declared.globals.Globals.{Globals}
use Rattle.qtt_term.specs.Keyed.{ascends, with_id, inserted}
use Rattle.qtt_term.specs.Items.{definition_entry, definition_id, family_id, constructor_of, signature_entry, body_closed, all_bodies_closed}
use Rattle.qtt_term.specs.View.{term}
use Rattle.qtt_term.specs.Globals.{families, definitions, IsAbsent}
use Rattle.qtt_term.proofs.Order.{all-inserted, ascends-inserted, none_is}
use Rattle.qtt_term.proofs.Entries.{absent_below, ascends_below, grown}
use Rattle.qtt_term.proofs.globals.Globals.add_signature.Goals as goal

no_definition : (g : Globals) (id : GlobalId) → IsAbsent g id → with_id definition_id id (definitions g) ≡ None
no_definition g id absent =
    let a = is_none (with_id family_id id (families g)) in
    let b = is_none (constructor_of (families g) id) in
    let d = is_none (with_id definition_id id (definitions g)) in
    none_is (with_id definition_id id (definitions g)) (and_parts b d (and_parts a (b && d) absent).1).1

pub place-requires-clause-ascend : goal.place-requires-clause-ascend
place-requires-clause-ascend c =
    ascends_below definition_entry definition_id c.args.self.now.definitions.items c.reserve.new.self.items
    c.reserve.ensures.items c.args.self.now.definitions_ascend

pub place-requires-clause-new_id : goal.place-requires-clause-new_id
place-requires-clause-new_id c =
    ap (with_id (λ x. definition_id (definition_entry x)) c.args.id) c.reserve.ensures.items
    ∙ absent_below definition_entry definition_id c.args.id c.args.self.now.definitions.items
    (no_definition c.args.self.now c.args.id c.requires)

new_definitions : (c : goal.After-place) → map definition_entry c.place.new.items.items ≡
    inserted definition_id (signature_entry c.args.id c.args.name c.args.mult (term c.args.ty))
    (definitions c.args.self.now)
new_definitions c =
    grown definition_entry definition_id _ c.args.self.now.definitions.items c.reserve.new.self.items
    c.place.new.items.items
    c.place.ensures.items c.reserve.ensures.items

pub invariant_of-self-2-clause-definitions_ascend : goal.invariant_of-self-2-clause-definitions_ascend
invariant_of-self-2-clause-definitions_ascend c =
    let g = c.args.self.now in
    let entry = signature_entry c.args.id c.args.name c.args.mult (term c.args.ty) in
    ap (ascends definition_id) (new_definitions c)
    ∙ ascends-inserted definition_id entry (definitions g) g.definitions_ascend (no_definition g c.args.id c.requires)

pub invariant_of-self-2-clause-bodies_closed : goal.invariant_of-self-2-clause-bodies_closed
invariant_of-self-2-clause-bodies_closed c =
    let g = c.args.self.now in
    let entry = signature_entry c.args.id c.args.name c.args.mult (term c.args.ty) in
    ap all_bodies_closed (new_definitions c)
    ∙ all-inserted definition_id (λ d. body_closed d.definition) entry (definitions g) refl g.bodies_closed

pub returns-clause-ok : goal.returns-clause-ok
returns-clause-ok c =
    grown definition_entry definition_id _ c.args.self.now.definitions.items c.reserve.new.self.items
    c.place.new.items.items c.place.ensures.items c.reserve.ensures.items
