-- One argument more.
use Rattle.std.proofs.Common.{◌≡◌, ◌∙◌, ap, sym, ℕ, suc, arith, take}
use mathlib.Core.Path.{ap₂}
use Rattle.qtt_syntax.specs.Tree.Arguments.{argument_and}
use Rattle.qtt_implicit.specs.Nodes.{argument_row, node_tree}
use Rattle.qtt_implicit.specs.Slots.{seen, slot_list}
use Rattle.qtt_implicit.specs.Solving.{in_front, solved}
use Rattle.qtt_implicit.specs.Walk.{binder_names, slot_argument}
use Rattle.qtt_implicit.proofs.Standing.{if_ok}
use Rattle.qtt_implicit.proofs.filling.applying.+filled_row.Goals as goal

pub returns-in_ok-others-in-Filled : goal.returns-in_ok-others-in-Filled
returns-in_ok-others-in-Filled t c =
    let b = c.in-Some.braces in
    let text = c.in-Filled.text in
    let T = seen text.rest text.moved (slot_list text.slots.now) (node_tree text.tree.now) in
    let NS = binder_names b (node_tree c.in-Pi.codomain.now) in
    let OS = take b (slot_list c.in-Filled.older.now) in
    let kb : c.args.braces ≡ suc b = omega arith in
    let names = ap₂ (λ (k : ℕ) n. binder_names k (node_tree n)) kb c.in-Pi.is in
    let slots = ap₂ (λ (k : ℕ) σ. take k (slot_list σ)) kb c.in-Filled.is in
    let p = c.args.place in
    let k = c.args.written in
    let R = argument_row c.args.others.now in
    if_ok c.argument.result _ _ (λ r e. e
    ∙ ap (argument_and (slot_argument p k T)) (c.in_ok-others-in-Filled.ensures
    ∙ ap (λ (l : ℕ). in_front (solved p l NS OS) R) c.saturating_sub-later.ensures)
    ∙ sym (ap₂ (λ ns os. in_front (solved p k ns os) R) names slots)) c.argument.ensures
