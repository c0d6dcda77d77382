use Rattle.std.proofs.Common.{◌≡◌, ◌∙◌, length, map, reverse, rules, ap}
use Rattle.qtt_term.specs.Scope.{name_of}
use Rattle.qtt_term.specs.View.{term}
use Rattle.qtt_unify.specs.View.{binders}
use Rattle.qtt_split.specs.Calls.{group_of, opened_of}
use Rattle.qtt_split.specs.Columns.{row_of}
use Rattle.qtt_split.specs.Labels.{newest_labels}
use Rattle.qtt_split.specs.Plan.{labels_for, start_rows}
use Rattle.qtt_split.specs.Sights.{sights_of}
use Rattle.qtt_split.proofs.Meant.{start-as}
use Rattle.qtt_split.proofs.planner.Planner.start.Goals as goal

pub returns : goal.returns
returns g c =
    let G = group_of c.args.self.now in
    let O = opened_of c.args.opened.now in
    let context = c.in_ok-context.context.items in
    let labels = map name_of c.args.labels.now in
    let ls = c.in_ok-labels_for.field-0 in
    let count : c.len-count.result ≡ length context = search rules in
    start-as G labels O context (newest_labels ls.items) (sights_of c.in_ok-start_sights.field-0.items)
    (term c.in_ok-copy.field-0) (map row_of c.in_ok-start_rows.field-0.items) c.in_ok-number.field-0
    (c.in_ok-context.ensures ∙ search rules) (c.in_ok-number.ensures ∙ count)
    (ap reverse (c.in_ok-labels_for.ensures ∙ ap (λ m. labels_for m labels) count)) c.in_ok-start_sights.ensures
    c.in_ok-copy.ensures
    (c.in_ok-start_rows.ensures ∙ ap (λ xs. start_rows (binders xs) 0 G.clauses) c.deref-2.ensures.value)
