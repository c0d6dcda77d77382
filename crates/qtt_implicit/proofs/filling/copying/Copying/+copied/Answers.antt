-- The copies of forms, by those of their parts.
use Rattle.std.proofs.Common.{◌≡◌, ◌∙◌, ap, sym, ℕ, ◌+◌, ◌-◌, arith}
use Rattle.qtt_syntax.specs.declared.expr.Target.{Target}
use Rattle.qtt_syntax.specs.Tree.{Tree}
use Rattle.qtt_implicit.specs.Moving.{changed, replaced_name, shifted}
use Rattle.qtt_implicit.specs.Nodes.{argument_row, binder_row, node_tree, statement_row, used_name}
use Rattle.qtt_implicit.specs.Slots.{moving, replacing, slot_list, stands}
use Rattle.qtt_implicit.specs.Copies.{copied, copied_arguments, copied_binders, copied_statements, placing, standing}
use Rattle.qtt_implicit.proofs.Copied.{apply_same, argument_same, bind_same, copied_free, copied_seen, lambda_body, lambda_same, letting_same, local_same, pi_same, plain_same, run_same, the_same, typed_same}
use Rattle.qtt_implicit.proofs.Standing.{if_ok}
use Rattle.qtt_implicit.proofs.filling.copying.Copying.+copied.Goals as goal

pub node-returns-in_ok-value-in-The : goal.node-returns-in_ok-value-in-The
node-returns-in_ok-value-in-The t c =
    let S = c.args.self.now in
    let d = c.args.depth in
    if_ok c.put-in-The.result _ _ (λ r e. ap node_tree e
    ∙ the_same c.in_ok-ty-in-The.ensures c.in_ok-value-in-The.ensures c.place-in-The.ensures
    ∙ sym (ap (λ x. copied S d (node_tree x)) c.in-The.is)) c.put-in-The.ensures

pub node-returns-in_ok-arguments-in-Apply : goal.node-returns-in_ok-arguments-in-Apply
node-returns-in_ok-arguments-in-Apply t c =
    let S = c.args.self.now in
    let d = c.args.depth in
    if_ok c.put-in-Apply.result _ _ (λ r e. ap node_tree e
    ∙ apply_same c.in_ok-function-in-Apply.ensures c.in_ok-arguments-in-Apply.ensures c.place-in-Apply.ensures
    ∙ sym (ap (λ x. copied S d (node_tree x)) c.in-Apply.is)) c.put-in-Apply.ensures

pub node-returns-in_ok-codomain-in-Pi : goal.node-returns-in_ok-codomain-in-Pi
node-returns-in_ok-codomain-in-Pi t c =
    let S = c.args.self.now in
    let d = c.args.depth in
    if_ok c.put-in-Pi.result _ _ (λ r e. ap node_tree e
    ∙ pi_same c.in-Pi.mark c.in-Pi.mult c.in-Pi.name.now c.in_ok-domain-in-Pi.ensures
    (c.in_ok-codomain-in-Pi.ensures ∙ ap (λ (k : ℕ). copied S k (node_tree c.in-Pi.codomain.now))
    c.in_ok-inside-in-Pi.ensures) c.place-in-Pi.ensures
    ∙ sym (ap (λ x. copied S d (node_tree x)) c.in-Pi.is)) c.put-in-Pi.ensures

pub node-returns-in_ok-body-in-Lambda : goal.node-returns-in_ok-body-in-Lambda
node-returns-in_ok-body-in-Lambda t c =
    let S = c.args.self.now in
    let d = c.args.depth in
    if_ok c.put-in-Lambda.result _ _ (λ r e. ap node_tree e
    ∙ lambda_same c.in_ok-row-in-Lambda.ensures
    (c.in_ok-body-in-Lambda.ensures ∙ lambda_body (placing S.place) (moving S.moved) (standing S) d
    c.in_ok-behind-in-Lambda.field-0 (binder_row c.in-Lambda.binders.now) (node_tree c.in-Lambda.body.now)
    c.in_ok-behind-in-Lambda.ensures) c.place-in-Lambda.ensures
    ∙ sym (ap (λ x. copied S d (node_tree x)) c.in-Lambda.is)) c.put-in-Lambda.ensures

pub node-returns-in_ok-body-in-Let : goal.node-returns-in_ok-body-in-Let
node-returns-in_ok-body-in-Let t c =
    let S = c.args.self.now in
    let d = c.args.depth in
    if_ok c.put-in-Let.result _ _ (λ r e. ap node_tree e
    ∙ letting_same c.in-Let.mult c.bound.ensures c.in_ok-ty-in-Let.ensures c.in_ok-value-in-Let.ensures
    (c.in_ok-body-in-Let.ensures ∙ ap (λ (k : ℕ). copied S k (node_tree c.in-Let.body.now))
    c.in_ok-inside-in-Let.ensures) c.place-in-Let.ensures
    ∙ sym (ap (λ x. copied S d (node_tree x)) c.in-Let.is)) c.put-in-Let.ensures

pub arguments-returns-in_ok-others-in-More : goal.arguments-returns-in_ok-others-in-More
arguments-returns-in_ok-others-in-More t c =
    let S = c.args.self.now in
    let d = c.args.depth in
    if_ok c.placed-in-More.result _ _ (λ r e. ap argument_row e
    ∙ argument_same c.in-More.mark c.in_ok-value-in-More.ensures c.in_ok-others-in-More.ensures
    ∙ sym (ap (λ x. copied_arguments S d (argument_row x)) c.in-More.is)) c.placed-in-More.ensures

pub binders-returns-in_ok-others-in-Plain : goal.binders-returns-in_ok-others-in-Plain
binders-returns-in_ok-others-in-Plain t c =
    let S = c.args.self.now in
    let d = c.args.depth in
    if_ok c.placed-in-Plain.result _ _ (λ r e. ap binder_row e
    ∙ plain_same c.bound.ensures (c.in_ok-others-in-Plain.ensures
    ∙ ap (λ (k : ℕ). copied_binders S k (binder_row c.in-Plain.others.now)) c.in_ok-inside-in-Plain.ensures)
    ∙ sym (ap (λ x. copied_binders S d (binder_row x)) c.in-Plain.is)) c.placed-in-Plain.ensures

pub binders-returns-in_ok-others-in-Typed : goal.binders-returns-in_ok-others-in-Typed
binders-returns-in_ok-others-in-Typed t c =
    let S = c.args.self.now in
    let d = c.args.depth in
    if_ok c.placed-in-Typed.result _ _ (λ r e. ap binder_row e
    ∙ typed_same c.in-Typed.mult c.bound-in-Typed.ensures c.in_ok-ty-in-Typed.ensures c.place.ensures
    (c.in_ok-others-in-Typed.ensures
    ∙ ap (λ (k : ℕ). copied_binders S k (binder_row c.in-Typed.others.now)) c.in_ok-inside-in-Typed.ensures)
    ∙ sym (ap (λ x. copied_binders S d (binder_row x)) c.in-Typed.is)) c.placed-in-Typed.ensures

pub statements-returns-in_ok-others-in-Bind : goal.statements-returns-in_ok-others-in-Bind
statements-returns-in_ok-others-in-Bind t c =
    let S = c.args.self.now in
    let d = c.args.depth in
    if_ok c.placed-in-Bind.result _ _ (λ r e. ap statement_row e
    ∙ bind_same c.bound.ensures c.in_ok-value-in-Bind.ensures (c.in_ok-others-in-Bind.ensures
    ∙ ap (λ (k : ℕ). copied_statements S k (statement_row c.in-Bind.others.now)) c.in_ok-deeper-in-Bind.ensures)
    ∙ sym (ap (λ x. copied_statements S d (statement_row x)) c.in-Bind.is)) c.placed-in-Bind.ensures

pub statements-returns-in_ok-others-in-Let : goal.statements-returns-in_ok-others-in-Let
statements-returns-in_ok-others-in-Let t c =
    let S = c.args.self.now in
    let d = c.args.depth in
    if_ok c.placed-in-Let.result _ _ (λ r e. ap statement_row e
    ∙ local_same c.in-Let.mult c.bound-in-Let.ensures c.in_ok-ty-in-Let.ensures c.in_ok-value-in-Let.ensures
    c.place.ensures (c.in_ok-others-in-Let.ensures
    ∙ ap (λ (k : ℕ). copied_statements S k (statement_row c.in-Let.others.now)) c.in_ok-deeper-in-Let.ensures)
    ∙ sym (ap (λ x. copied_statements S d (statement_row x)) c.in-Let.is)) c.placed-in-Let.ensures

pub statements-returns-in_ok-others-in-Run : goal.statements-returns-in_ok-others-in-Run
statements-returns-in_ok-others-in-Run t c =
    let S = c.args.self.now in
    let d = c.args.depth in
    let none : d ≡ d + 0 = omega arith in
    if_ok c.placed-in-Run.result _ _ (λ r e. ap statement_row e
    ∙ run_same c.in_ok-value-in-Run.ensures c.place-in-Run.ensures (c.in_ok-others-in-Run.ensures
    ∙ ap (λ (k : ℕ). copied_statements S k (statement_row c.in-Run.others.now)) none)
    ∙ sym (ap (λ x. copied_statements S d (statement_row x)) c.in-Run.is)) c.placed-in-Run.ensures

pub used-returns-in_ok-deeper-in-Text-2 : goal.used-returns-in_ok-deeper-in-Text-2
used-returns-in_ok-deeper-in-Text-2 t c =
    let S = c.args.self.now in
    let d = c.args.depth in
    let n = used_name c.args.source in
    let σ = stands S.rest (slot_list S.slots.now) in
    let text = c.in-Text.text in
    let tree = node_tree text.tree.now in
    let h = c.in-Some.ensures in
    let far = c.in_ok-deeper-in-Text-2.ensures ∙ ap (λ (k : ℕ). text.moved + k) c.in_ok-deeper-in-Text.ensures in
    let here = ap (λ (k : ℕ). σ k n) (sym h.1) ∙ c.in-Text.ensures.stands S.rest n in
    if_ok c.node.result _ _ (λ r e. e
    ∙ ap (λ (k : ℕ). changed (placing S.place) 0 (changed (moving k) 0
    (changed (replacing (stands text.rest (slot_list text.slots.now))) 0 tree))) far
    ∙ sym (copied_seen S.place S.moved d text.rest text.moved (slot_list text.slots.now) tree)
    ∙ sym (ap (λ (x : Tree). changed (placing S.place) d (changed (moving S.moved) d (shifted d x))) here)
    ∙ sym (copied_free S.place S.moved d c.in-Local.index σ n h.0)
    ∙ sym (ap (λ (x : Target). changed (placing S.place) d (changed (moving S.moved) d (replaced_name σ d n x)))
    c.in-Local.is)) c.node.ensures
