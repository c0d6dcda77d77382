-- One argument of the family more, and none.
use Rattle.std.proofs.Common.{◌≡◌, ◌∙◌, ◌++◌, ◌∷◌, ap, sym, ℕ, suc, arith, reverse, take, Some}
use mathlib.Core.Path.{ap₂}
use Rattle.qtt_syntax.specs.Tree.{Tree}
use Rattle.qtt_implicit.specs.Matching.{Slots}
use Rattle.qtt_implicit.specs.Nodes.{argument_row, node_tree}
use Rattle.qtt_implicit.specs.Patterns.{argument_trees}
use Rattle.qtt_implicit.specs.TextTypes.{arguments_in, open_list, tree_in}
use Rattle.qtt_implicit.specs.Walk.{slots_of}
use Rattle.qtt_implicit.proofs.Braces.{turned_none, turned_params}
use Rattle.qtt_implicit.proofs.Standing.{if_ok}
use Rattle.qtt_implicit.proofs.filling.fields.+parameter_slots.Goals as goal

pub returns-in-End : goal.returns-in-End
returns-in-End t c =
    let σ = open_list c.args.slots in
    let k = c.args.params in
    let s = c.args.text.shared in
    if_ok c.empty_slots.result _ _ (λ r e. e ∙ sym (turned_none k σ)
    ∙ sym (ap (λ a. reverse (slots_of k (take k (argument_trees (arguments_in s (argument_row a))))) ++ σ) c.in-End.is))
    c.empty_slots.ensures

pub returns-in_ok-slots-in-Some : goal.returns-in_ok-slots-in-Some
returns-in_ok-slots-in-Some t c =
    let σ = open_list c.args.slots in
    let k = c.in-Some.params in
    let s = c.args.text.shared in
    let T = tree_in s (node_tree c.in-More.value.now) in
    let TS = argument_trees (arguments_in s (argument_row c.in-More.others.now)) in
    let kb : c.args.params ≡ suc k = omega arith in
    if_ok c.parameter_slots.result _ _ (λ r e. e
    ∙ ap (λ (τ : Slots). reverse (slots_of k (take k TS)) ++ τ)
    (c.in_ok-slots-in-Some.ensures ∙ ap (λ (u : Tree). Some u ∷ σ) c.at.ensures.tree)
    ∙ sym (turned_params k T TS σ)
    ∙ sym (ap₂ (λ (p : ℕ) a. reverse (slots_of p (take p (argument_trees (arguments_in s (argument_row a))))) ++ σ)
    kb c.in-More.is)) c.parameter_slots.ensures
