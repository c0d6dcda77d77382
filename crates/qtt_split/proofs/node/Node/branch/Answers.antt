use Rattle.std.proofs.Common.{◌∙◌, map, ap}
use Rattle.qtt_term.specs.Judgement.{ext}
use Rattle.qtt_term.specs.Telescopes.{tele}
use Rattle.qtt_term.specs.View.{term}
use Rattle.qtt_unify.specs.View.{binders, solution}
use Rattle.qtt_split.specs.Branch.{again, moved_row, rebound, seen_as}
use Rattle.qtt_split.specs.Columns.{row_of}
use Rattle.qtt_split.specs.Labels.{newest_labels}
use Rattle.qtt_split.specs.Seen.{Seen, all_seen_by, seen_deeper}
use Rattle.qtt_split.specs.Sights.{sights_of}
use Rattle.qtt_split.specs.Substitution.{stands_for}
use Rattle.qtt_split.proofs.Noded.{again-entered, node-entered}
use Rattle.qtt_split.proofs.node.Node.branch.Goals as goal

pub returns-clause-node : goal.returns-clause-node
returns-clause-node c =
    let N = c.args.self.now in
    let e = c.args.entry.now in
    let n = c.in_ok-fields.fields in
    let σ = stands_for c.in_ok-stands.stands in
    let ρ = stands_for c.in_ok-rebound.rebound.stands in
    let Θ = tele c.in_ok-rebound.rebound.again.items in
    node-entered N e (term c.args.value.now) n σ ρ Θ (binders c.in_ok-extended.field-0.items)
    (newest_labels c.in_ok-labels_in.field-0.items) (sights_of c.in_ok-all_moved.field-0.items)
    (term c.in_ok-apply.field-0) (map row_of c.in_ok-moved_rows.field-0.items) c.in_ok-fields.ensures
    c.in_ok-stands.ensures c.in_ok-rebound.ensures.stands
    (c.in_ok-rebound.ensures.again ∙ ap (λ xs. again (binders xs) e.reverted.now σ) c.deref.ensures.value)
    (c.in_ok-extended.ensures ∙
    ap (λ xs. ext (ext (binders xs) (tele e.fields.now)) (tele c.deref-3.result.now)) c.deref-2.ensures.value ∙
    ap (λ xs. ext (ext (binders N.context.items) (tele e.fields.now)) (tele xs)) c.deref-3.ensures.value)
    c.in_ok-labels_in.ensures
    (c.in_ok-all_moved.ensures ∙
    ap (λ xs. all_seen_by (rebound (Seen.open_at 0) seen_deeper e.reverted.now
    (seen_as e.variable e.con (map solution e.solved.now) n)) ρ (sights_of xs)) c.deref-4.ensures.value)
    c.in_ok-apply.ensures
    (c.in_ok-moved_rows.ensures ∙ ap (λ xs. map (moved_row ρ) (map row_of xs)) c.deref-5.ensures.value)

pub returns-clause-again : goal.returns-clause-again
returns-clause-again c =
    let N = c.args.self.now in
    let e = c.args.entry.now in
    let σ = stands_for c.in_ok-stands.stands in
    again-entered N e (term c.args.value.now) c.in_ok-fields.fields σ (tele c.in_ok-rebound.rebound.again.items)
    c.in_ok-fields.ensures c.in_ok-stands.ensures
    (c.in_ok-rebound.ensures.again ∙ ap (λ xs. again (binders xs) e.reverted.now σ) c.deref.ensures.value)
