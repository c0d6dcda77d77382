-- One slot more is turned round.
use Rattle.std.proofs.Common.{◌∙◌, ◌++◌, ap, sym, subst, reverse, IfOk, Some, None}
use Rattle.qtt_implicit.specs.Matching.{Slots}
use Rattle.qtt_implicit.specs.Nodes.{node_tree}
use Rattle.qtt_implicit.specs.Slots.{AreSlots, seen, slot_list}
use Rattle.qtt_implicit.proofs.Standing.{turned_more}
use Rattle.qtt_implicit.proofs.filling.changing.+turned.Goals as goal

pub returns-in_ok-placed-in-Empty : goal.returns-in_ok-placed-in-Empty
returns-in_ok-placed-in-Empty t c =
    let older = slot_list c.in-Empty.older.now in
    let P : Slots → Type 0 = λ x. IfOk c.turned.result (λ r. AreSlots x r.now) in
    subst P
    (ap (λ s. reverse older ++ slot_list s) c.in_ok-placed-in-Empty.ensures
    ∙ sym (turned_more None older (slot_list c.args.behind.now))
    ∙ sym (ap (λ s. reverse (slot_list s) ++ slot_list c.args.behind.now) c.in-Empty.is))
    c.turned.ensures

pub returns-in_ok-behind-in-Filled : goal.returns-in_ok-behind-in-Filled
returns-in_ok-behind-in-Filled t c =
    let text = c.in-Filled.text in
    let first = Some (seen text.rest text.moved (slot_list text.slots.now) (node_tree text.tree.now)) in
    let older = slot_list c.in-Filled.older.now in
    let P : Slots → Type 0 = λ x. IfOk c.turned-in-Filled.result (λ r. AreSlots x r.now) in
    subst P
    (ap (λ s. reverse older ++ slot_list s) c.in_ok-behind-in-Filled.ensures
    ∙ sym (turned_more first older (slot_list c.args.behind.now))
    ∙ sym (ap (λ s. reverse (slot_list s) ++ slot_list c.args.behind.now) c.in-Filled.is))
    c.turned-in-Filled.ensures
