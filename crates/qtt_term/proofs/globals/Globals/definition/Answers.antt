use Rattle.std.proofs.Common.{◌≡◌, option_map, ap, sym, ◌∙◌}
use Rattle.qtt_term.specs.Keyed.{ascends, with_id}
use Rattle.qtt_term.specs.Items.{definition_entry, definition_id}
use Rattle.qtt_term.specs.Globals.{definitions}
use Rattle.qtt_term.proofs.Order.{ascends-map}
use Rattle.qtt_term.proofs.Entries.{looked_up, then_map}
use Rattle.qtt_term.proofs.globals.Globals.definition.Goals as goal

pub find-requires : goal.find-requires
find-requires c =
    ap (ascends (λ x. definition_id (definition_entry x))) c.deref.ensures.value ∙
    sym (ascends-map definition_entry definition_id c.args.self.now.definitions.items)
    ∙ c.args.self.now.definitions_ascend

found : (c : goal.After-find) →
    option_map (λ r. definition_entry r.now) c.find.result ≡ with_id definition_id c.args.id
    (definitions c.args.self.now)
found c =
    looked_up definition_entry definition_id c.args.id c.args.self.now.definitions.items c.find.result
    (c.find.ensures ∙ ap (with_id (λ x. definition_id (definition_entry x)) c.args.id) c.deref.ensures.value)

pub returns-clause-found : goal.returns-clause-found
returns-clause-found c = found c

pub returns-clause-env : goal.returns-clause-env
returns-clause-env c = then_map definition_entry (λ e. e.definition) c.find.result ∙
    ap (option_map (λ e. e.definition)) (found c)
