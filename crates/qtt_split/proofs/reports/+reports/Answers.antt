use Rattle.std.proofs.Common.{◌≡◌, ◌∙◌, map, ap, sym, rules}
use Rattle.qtt_syntax.specs.View.{shape_of}
use Rattle.qtt_term.proofs.Binders.{if-ok}
use Rattle.qtt_split.specs.declared.sights.Seen as code_seen
use Rattle.qtt_split.specs.Plan.{clause_reports}
use Rattle.qtt_split.specs.Seen.{Seen, reports}
use Rattle.qtt_split.specs.Sights.{seen_of, sights_of}
use Rattle.qtt_split.specs.View.{report_of}
use Rattle.qtt_split.proofs.Reported.{told-made}
use Rattle.qtt_split.proofs.reports.+reports.Goals as goal

pub reports-returns-in-MadeOf : goal.reports-returns-in-MadeOf
reports-returns-in-MadeOf t c =
    let n = c.args.count in
    let x = c.in-Constructor in
    let ps = c.deref.result.now in
    let ys = c.deref-in-MadeOf.result.now in
    let con = c.in-MadeOf.field-0 in
    let ss = sights_of c.in-MadeOf.fields.items in
    let seen : seen_of c.args.seen.now ≡ Seen.made_of con ss = search (rules, code_seen.the_lemmas) in
    let told : clause_reports n (map shape_of ps) (sights_of ys)
    ≡ reports n (shape_of c.args.pattern.now) (seen_of c.args.seen.now) =
    ap (λ xs. clause_reports n (map shape_of xs) (sights_of ys)) c.deref.ensures.value ∙
    ap (λ xs. clause_reports n (map shape_of x.arguments.items) (sights_of xs)) c.deref-in-MadeOf.ensures.value ∙
    told-made n x.mark x.head x.arguments x.span con ss ∙
    ap (λ p. reports n (shape_of p) (Seen.made_of con ss)) (sym x.is) ∙
    ap (reports n (shape_of c.args.pattern.now)) (sym seen) in
    if-ok (λ rs. map report_of rs.items ≡ clause_reports n (map shape_of ps) (sights_of ys))
    (λ rs. map report_of rs.items ≡ reports n (shape_of c.args.pattern.now) (seen_of c.args.seen.now))
    c.clause_reports.result (λ rs h. h ∙ told) c.clause_reports.ensures
