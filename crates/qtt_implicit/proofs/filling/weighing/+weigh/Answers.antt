-- The weights of forms, by those of their parts.
use Rattle.std.proofs.Common.{◌≡◌, ◌∙◌, ap, sym, ℕ, ◌+◌, arith}
use Rattle.qtt_implicit.specs.Moving.{changed, changed_arguments, changed_binders, changed_statements, weighed_arguments, weighed_binders, weighed_statements}
use Rattle.qtt_implicit.specs.Nodes.{node_tree, argument_row, binder_row, statement_row}
use Rattle.qtt_implicit.specs.Slots.{slot_list, stands, replacing, weight_of, weight_by}
use Rattle.qtt_implicit.proofs.Weights.{sum_two}
use Rattle.qtt_implicit.proofs.filling.weighing.+weigh.Goals as goal

pub weigh-returns-in_ok-value-in-The : goal.weigh-returns-in_ok-value-in-The
weigh-returns-in_ok-value-in-The t c =
    let R = replacing (stands c.args.rest (slot_list c.args.slots.now)) in
    sum_two _ _ _ _ c.node.ensures
    (sum_two _ _ _ _ c.in_ok-ty-in-The.ensures c.in_ok-value-in-The.ensures c.and.ensures) c.and-in-The.ensures
    ∙ sym (ap (λ x. weight_of (changed R c.args.depth (node_tree x))) c.in-The.is)

pub weigh-returns-in_ok-arguments-in-Apply : goal.weigh-returns-in_ok-arguments-in-Apply
weigh-returns-in_ok-arguments-in-Apply t c =
    let R = replacing (stands c.args.rest (slot_list c.args.slots.now)) in
    sum_two _ _ _ _ c.node-in-Apply.ensures
    (sum_two _ _ _ _ c.in_ok-function-in-Apply.ensures c.in_ok-arguments-in-Apply.ensures c.and-in-Apply.ensures)
    c.and-in-Apply-2.ensures
    ∙ sym (ap (λ x. weight_of (changed R c.args.depth (node_tree x))) c.in-Apply.is)

pub weigh-returns-in_ok-codomain-in-Pi : goal.weigh-returns-in_ok-codomain-in-Pi
weigh-returns-in_ok-codomain-in-Pi t c =
    let R = replacing (stands c.args.rest (slot_list c.args.slots.now)) in
    sum_two _ _ _ _ c.node-in-Pi.ensures
    (sum_two _ _ _ _ c.in_ok-domain-in-Pi.ensures (c.in_ok-codomain-in-Pi.ensures
    ∙ ap (λ (k : ℕ). weight_of (changed R k (node_tree c.in-Pi.codomain.now)))
    c.in_ok-inside-in-Pi.ensures)
    c.and-in-Pi.ensures) c.and-in-Pi-2.ensures
    ∙ sym (ap (λ x. weight_of (changed R c.args.depth (node_tree x))) c.in-Pi.is)

pub weigh-returns-in_ok-body-in-Lambda : goal.weigh-returns-in_ok-body-in-Lambda
weigh-returns-in_ok-body-in-Lambda t c =
    let R = replacing (stands c.args.rest (slot_list c.args.slots.now)) in
    sum_two _ _ _ _ c.node-in-Lambda.ensures
    (sum_two _ _ _ _ c.in_ok-row-in-Lambda.ensures (c.in_ok-body-in-Lambda.ensures
    ∙ ap (λ (k : ℕ). weight_of (changed R k (node_tree c.in-Lambda.body.now)))
    c.in_ok-behind-in-Lambda.ensures)
    c.and-in-Lambda.ensures) c.and-in-Lambda-2.ensures
    ∙ sym (ap (λ x. weight_of (changed R c.args.depth (node_tree x))) c.in-Lambda.is)

pub weigh-returns-in_ok-body-in-Let : goal.weigh-returns-in_ok-body-in-Let
weigh-returns-in_ok-body-in-Let t c =
    let R = replacing (stands c.args.rest (slot_list c.args.slots.now)) in
    sum_two _ _ _ _ c.node-in-Let.ensures
    (sum_two _ _ _ _ c.in_ok-ty-in-Let.ensures (sum_two _ _ _ _ c.in_ok-value-in-Let.ensures
    (c.in_ok-body-in-Let.ensures
    ∙ ap (λ (k : ℕ). weight_of (changed R k (node_tree c.in-Let.body.now)))
    c.in_ok-inside-in-Let.ensures)
    c.and-in-Let.ensures) c.and-in-Let-2.ensures) c.and-in-Let-3.ensures
    ∙ sym (ap (λ x. weight_of (changed R c.args.depth (node_tree x))) c.in-Let.is)

pub weigh-returns-in_ok-statements-in-Do : goal.weigh-returns-in_ok-statements-in-Do
weigh-returns-in_ok-statements-in-Do t c =
    let R = replacing (stands c.args.rest (slot_list c.args.slots.now)) in
    sum_two _ _ _ _ c.node-in-Do.ensures c.in_ok-statements-in-Do.ensures c.and-in-Do.ensures
    ∙ sym (ap (λ x. weight_of (changed R c.args.depth (node_tree x))) c.in-Do.is)

pub weigh_arguments-returns-in_ok-others-in-More : goal.weigh_arguments-returns-in_ok-others-in-More
weigh_arguments-returns-in_ok-others-in-More t c =
    let R = replacing (stands c.args.rest (slot_list c.args.slots.now)) in
    sum_two _ _ _ _ c.in_ok-value-in-More.ensures c.in_ok-others-in-More.ensures c.and.ensures
    ∙ sym (ap (λ x. weight_by (λ v. weighed_arguments v (changed_arguments R c.args.depth (argument_row x))))
    c.in-More.is)

pub weigh_binders-returns-in_ok-others-in-Plain : goal.weigh_binders-returns-in_ok-others-in-Plain
weigh_binders-returns-in_ok-others-in-Plain t c =
    let R = replacing (stands c.args.rest (slot_list c.args.slots.now)) in
    sum_two _ _ _ _ c.none-in-Plain.ensures (c.in_ok-others-in-Plain.ensures
    ∙ ap (λ (k : ℕ). weight_by (λ v. weighed_binders v (changed_binders R k (binder_row c.in-Plain.others.now))))
    c.in_ok-inside-in-Plain.ensures)
    c.and.ensures
    ∙ sym (ap (λ x. weight_by (λ v. weighed_binders v (changed_binders R c.args.depth (binder_row x))))
    c.in-Plain.is)

pub weigh_binders-returns-in_ok-others-in-Typed : goal.weigh_binders-returns-in_ok-others-in-Typed
weigh_binders-returns-in_ok-others-in-Typed t c =
    let R = replacing (stands c.args.rest (slot_list c.args.slots.now)) in
    sum_two _ _ _ _ c.in_ok-ty-in-Typed.ensures (c.in_ok-others-in-Typed.ensures
    ∙ ap (λ (k : ℕ). weight_by (λ v. weighed_binders v (changed_binders R k (binder_row c.in-Typed.others.now))))
    c.in_ok-inside-in-Typed.ensures)
    c.and-in-Typed.ensures
    ∙ sym (ap (λ x. weight_by (λ v. weighed_binders v (changed_binders R c.args.depth (binder_row x))))
    c.in-Typed.is)

pub weigh_statements-returns-in_ok-others-in-Bind : goal.weigh_statements-returns-in_ok-others-in-Bind
weigh_statements-returns-in_ok-others-in-Bind t c =
    let R = replacing (stands c.args.rest (slot_list c.args.slots.now)) in
    sum_two _ _ _ _ c.in_ok-value-in-Bind.ensures (c.in_ok-others-in-Bind.ensures
    ∙ ap (λ (k : ℕ). weight_by (λ v. weighed_statements v
    (changed_statements R k (statement_row c.in-Bind.others.now))))
    c.in_ok-deeper-in-Bind.ensures)
    c.and.ensures
    ∙ sym (ap (λ x. weight_by (λ v. weighed_statements v (changed_statements R c.args.depth (statement_row x))))
    c.in-Bind.is)

pub weigh_statements-returns-in_ok-others-in-Let : goal.weigh_statements-returns-in_ok-others-in-Let
weigh_statements-returns-in_ok-others-in-Let t c =
    let R = replacing (stands c.args.rest (slot_list c.args.slots.now)) in
    sum_two _ _ _ _ (sum_two _ _ _ _ c.in_ok-ty-in-Let.ensures c.in_ok-value-in-Let.ensures c.and-in-Let.ensures)
    (c.in_ok-others-in-Let.ensures
    ∙ ap (λ (k : ℕ). weight_by (λ v. weighed_statements v (changed_statements R k (statement_row c.in-Let.others.now))))
    c.in_ok-deeper-in-Let.ensures)
    c.and-in-Let-2.ensures
    ∙ sym (ap (λ x. weight_by (λ v. weighed_statements v (changed_statements R c.args.depth (statement_row x))))
    c.in-Let.is)

pub weigh_statements-returns-in_ok-others-in-Run : goal.weigh_statements-returns-in_ok-others-in-Run
weigh_statements-returns-in_ok-others-in-Run t c =
    let R = replacing (stands c.args.rest (slot_list c.args.slots.now)) in
    let none : c.args.depth ≡ c.args.depth + 0 = omega arith in
    sum_two _ _ _ _ c.in_ok-value-in-Run.ensures (c.in_ok-others-in-Run.ensures
    ∙ ap (λ (k : ℕ). weight_by (λ v. weighed_statements v (changed_statements R k (statement_row c.in-Run.others.now))))
    none)
    c.and-in-Run.ensures
    ∙ sym (ap (λ x. weight_by (λ v. weighed_statements v (changed_statements R c.args.depth (statement_row x))))
    c.in-Run.is)
