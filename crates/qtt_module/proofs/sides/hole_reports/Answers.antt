use Rattle.std.proofs.Common.{◌≡◌, ◌∙◌, ℕ, Option, List, ◌++◌, ◌∷◌, [], map, take, ap, sym, rules}
use Rattle.std.proofs.lemmas.List.{take_more, map-append}
use Rattle.qtt_base.specs.declared.place.Span.{Span}
use Rattle.qtt_rules.specs.Report.{Report}
use Rattle.qtt_holes.specs.declared.reports.Report as code
use Rattle.qtt_holes.specs.View.{report_of as hole_report_of}
use Rattle.qtt_split.specs.View.{report_of}
use Rattle.qtt_module.proofs.sides.hole_reports.Goals as goal

abbrev made : ℕ → Span → Option (List ℕ) → Report
made v s n = record { variable = v; name = n; place = s }

pub loop-report-preserved : goal.loop-report-preserved
loop-report-preserved c =
    let rs = c.args.reports.now in
    let i = c.loop-report.report-index in
    let r = c.report-item.result in
    let x : code.Report = record { variable = r.variable; name = c.in_ok-copied_name.field-0; place = r.place } in
    let now : c.push.new.self.items ≡ c.loop-report.told.items ++ x ∷ [] = search rules in
    let same : hole_report_of x ≡ report_of r =
    ap (made r.variable r.place) c.in_ok-copied_name.ensures in
    ap (map hole_report_of) now ∙ map-append hole_report_of c.loop-report.told.items (x ∷ [])
    ∙ ap (λ ys. ys ++ hole_report_of x ∷ []) c.loop-report.invariant
    ∙ ap (λ y. map report_of (take i rs) ++ y ∷ []) same
    ∙ sym (map-append report_of (take i rs) (r ∷ []))
    ∙ ap (map report_of) (sym (take_more rs i r c.loop-report-test.true
    ∙ ap (λ y. take i rs ++ y ∷ []) (sym c.report-item.is)))
