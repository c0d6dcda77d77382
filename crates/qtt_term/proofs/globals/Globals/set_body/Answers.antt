use Rattle.std.proofs.Common.{◌≡◌, ℕ, List, map, get_or, true, option_map, ap, sym, subst, ◌∙◌, refl}
use Rattle.std.proofs.Math.ListN.{set}
use Rattle.std.proofs.lemmas.List.{get_or_default}
use Rattle.qtt_term.specs.Term.{Term}
use Rattle.qtt_base.specs.declared.place.GlobalId.{GlobalId}
use Rattle.qtt_term.specs.declared.items.Definition as code
use Rattle.qtt_term.specs.Keyed.{ascends, with_id, IsPlaceOf}
use Rattle.qtt_term.specs.Items.{definition_entry, definition_id, given_body, with_body, all_bodies_closed}
use Rattle.qtt_term.specs.View.{term}
use Rattle.qtt_term.proofs.Order.{place_has_id, set-changed, ascends-changed, with_id-map}
use Rattle.qtt_term.proofs.Entries.{ascends_below}
use Rattle.qtt_term.proofs.Kept.{closed-with_body}
use Rattle.qtt_term.proofs.globals.Globals.set_body.Goals as goal

pub search-requires : goal.search-requires
search-requires c =
    ascends_below definition_entry definition_id c.args.self.now.definitions.items c.deref.result.now
    c.deref.ensures.value c.args.self.now.definitions_ascend

pub unreachable-requires : goal.unreachable-requires
unreachable-requires c =
    let old = c.args.self.now.definitions.items in
    let id = c.args.id in
    let here = with_id-map definition_entry definition_id id old in
    let none = ap (with_id (λ x. definition_id (definition_entry x)) id) (sym c.deref.ensures.value) ∙
    c.in-Err.ensures.absent.absent in
    let there = c.requires.open in
    cc (sym there ∙ ap (option_map (λ e. e.definition.body)) (here ∙ ap (option_map definition_entry) none))

-- the definitions afterwards
after : (old found : List code.Definition) (id : GlobalId) (i : ℕ) (d : code.Definition) (b : Term)
    (x : code.Definition) → found ≡ old → ascends definition_id (map definition_entry old) ≡ true →
    IsPlaceOf (λ y. definition_id (definition_entry y)) id found i → d ≡ get_or old i d →
    definition_entry x ≡ given_body b (definition_entry d) →
    map definition_entry (set old i x) ≡ with_body id b (map definition_entry old)
after old found id i d b x e up h at is =
    let here = subst (λ xs. IsPlaceOf (λ y. definition_id (definition_entry y)) id xs i) e h in
    set-changed definition_entry definition_id id (given_body b) old i x up here.in_range
    (λ z. place_has_id (λ y. definition_id (definition_entry y)) id old i z here)
    (λ z. is ∙ ap (λ y. given_body b (definition_entry y)) (at ∙ get_or_default old i d z here.in_range))

pub returns-clause-definitions : goal.returns-clause-definitions
returns-clause-definitions c =
    after c.args.self.now.definitions.items c.deref.result.now c.args.id c.in-Ok.at c.index_mut.result.now
    (term c.args.body) _ c.deref.ensures.value
    c.args.self.now.definitions_ascend c.in-Ok.ensures.found c.index_mut.ensures.value refl

pub invariant_of-self-clause-definitions_ascend : goal.invariant_of-self-clause-definitions_ascend
invariant_of-self-clause-definitions_ascend c =
    let old = c.args.self.now.definitions.items in
    let up = c.args.self.now.definitions_ascend in
    let now = after old c.deref.result.now c.args.id c.in-Ok.at c.index_mut.result.now
    (term c.args.body) _ c.deref.ensures.value up c.in-Ok.ensures.found c.index_mut.ensures.value refl in
    ap (ascends definition_id) now ∙ ascends-changed definition_id c.args.id (given_body (term c.args.body))
    (map definition_entry old) (λ y. refl) ∙ up

pub invariant_of-self-clause-bodies_closed : goal.invariant_of-self-clause-bodies_closed
invariant_of-self-clause-bodies_closed c =
    let g = c.args.self.now in
    let old = g.definitions.items in
    let now = after old c.deref.result.now c.args.id c.in-Ok.at c.index_mut.result.now
    (term c.args.body) _ c.deref.ensures.value g.definitions_ascend c.in-Ok.ensures.found
    c.index_mut.ensures.value refl in
    ap all_bodies_closed now ∙ closed-with_body c.args.id (term c.args.body)
    (map definition_entry old) c.requires.closed g.bodies_closed
