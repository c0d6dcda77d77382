use Rattle.std.proofs.Common.{◌≡◌, option_map, ap, sym, ◌∙◌}
use Rattle.qtt_term.specs.Keyed.{ascends, with_id}
use Rattle.qtt_term.specs.Items.{family_entry, family_id}
use Rattle.qtt_term.specs.Globals.{families}
use Rattle.qtt_term.proofs.Order.{ascends-map}
use Rattle.qtt_term.proofs.Entries.{looked_up, then_map}
use Rattle.qtt_term.proofs.globals.Globals.family.Goals as goal

pub find-requires : goal.find-requires
find-requires c =
    ap (ascends (λ x. family_id (family_entry x))) c.deref.ensures.value ∙
    sym (ascends-map family_entry family_id c.args.self.now.families.items)
    ∙ c.args.self.now.families_ascend

found : (c : goal.After-find) →
    option_map (λ r. family_entry r.now) c.find.result ≡ with_id family_id c.args.id (families c.args.self.now)
found c =
    looked_up family_entry family_id c.args.id c.args.self.now.families.items c.find.result
    (c.find.ensures ∙ ap (with_id (λ x. family_id (family_entry x)) c.args.id) c.deref.ensures.value)

pub returns-clause-found : goal.returns-clause-found
returns-clause-found c = found c

pub returns-clause-env : goal.returns-clause-env
returns-clause-env c = then_map family_entry (λ e. e.family) c.find.result ∙ ap (option_map (λ e. e.family)) (found c)
