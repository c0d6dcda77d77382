-- One slot more is moved.
use Rattle.std.proofs.Common.{◌∙◌, ap, sym, subst, ◌∷◌, Some}
use mathlib.Core.Path.{ap₂}
use Rattle.qtt_implicit.specs.Nodes.{node_tree}
use Rattle.qtt_implicit.specs.Slots.{IsSound, moved_slots, slot_list}
use Rattle.qtt_implicit.proofs.Standing.{if_ok, moved_slot_more}
use Rattle.qtt_implicit.proofs.filling.changing.+moved_along.Goals as goal

pub returns-in_ok-deeper-in-Filled : goal.returns-in_ok-deeper-in-Filled
returns-in_ok-deeper-in-Filled t c =
    let text = c.in-Filled.text in
    let h = subst IsSound c.in-Filled.is c.requires in
    let older = c.in_ok-older-in-Filled.ensures in
    let more = moved_slot_more text.rest text.moved c.args.by c.in_ok-deeper-in-Filled.field-0
    (slot_list text.slots.now) (node_tree text.tree.now) c.in-Filled.weight
    c.in_ok-deeper-in-Filled.ensures h.0 in
    if_ok c.placed-in-Filled.result _ _ (λ r e. record {
      same =
          ap slot_list e ∙ ap₂ (λ x y. Some x ∷ y) more.0 older.same
          ∙ sym (ap (λ s. moved_slots c.args.by (slot_list s)) c.in-Filled.is);
      sound = subst IsSound (sym e) (more.1, (h.1.0, older.sound));
    }) c.placed-in-Filled.ensures
