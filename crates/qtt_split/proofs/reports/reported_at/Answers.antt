use Rattle.std.proofs.Common.{◌≡◌, ◌∙◌, ◌-◌, ◌++◌, suc, true, [], ◌∷◌, map, ap, sym, rules, arith, option_copied}
use Rattle.std.proofs.lemmas.List.{map-append}
use Rattle.qtt_split.specs.declared.tree.Report as code_report
use Rattle.qtt_split.specs.Seen.{shows, reported_at}
use Rattle.qtt_split.specs.Sights.{seen_of}
use Rattle.qtt_split.specs.View.{report_of}
use Rattle.qtt_split.proofs.Reported.{report_at, told-more}
use Rattle.qtt_split.proofs.reports.reported_at.Goals as goal

pub loop-variable-preserved-in_ok-push : goal.loop-variable-preserved-in_ok-push
loop-variable-preserved-in_ok-push c =
    let n = c.loop-variable.variable - 1 in
    let name = option_copied c.args.name in
    let s = c.args.place in
    let y = seen_of c.args.seen.now in
    let told = c.loop-variable.reported.items in
    let e : c.loop-variable.variable ≡ suc n = omega (arith, c.loop-variable-test.true) in
    let there : shows n y ≡ true = sym c.shows.ensures ∙ c.if-shows.true in
    let copy = c.in_ok-copied_name.field-0 in
    let copied : copy ≡ name = c.in_ok-copied_name.ensures in
    let one : code_report.Report = record { variable = n; name = copy; place = s } in
    let now : c.push.new.self.items ≡ told ++ one ∷ [] = search rules in
    let last : map report_of c.push.new.self.items ≡ map report_of told ++ report_at name s y n ∷ [] =
    ap (map report_of) now ∙ map-append report_of told (one ∷ []) ∙
    ap (λ x. map report_of told ++ record { variable = n; name = x; place = s } ∷ []) copied in
    c.loop-variable.invariant ∙
    ap (λ k. map report_of told ++ reported_at k name s y) e ∙
    told-more name s y n (map report_of told) there ∙
    ap (λ xs. xs ++ reported_at n name s y) (sym last)
