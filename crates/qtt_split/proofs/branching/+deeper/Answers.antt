use Rattle.std.proofs.Common.{◌≡◌, ◌∙◌, map, suc, rules, ap, sym}
use Rattle.std.proofs.lemmas.List.{take_all}
use Rattle.qtt_term.specs.Term.{var}
use Rattle.qtt_term.specs.View.{term}
use Rattle.qtt_term.proofs.Moves.{raised-zero}
use Rattle.qtt_term.proofs.Subst.{ren-is-sub}
use Rattle.qtt_split.specs.declared.sights.Seen.{the_lemmas}
use Rattle.qtt_split.specs.declared.sights.Seen.TheVariants as code
use Rattle.qtt_split.specs.Seen.{Seen, sights, seen_deeper}
use Rattle.qtt_split.specs.Sights.{seen_of}
use Rattle.qtt_split.proofs.Branched.{each-seen}
use Rattle.qtt_split.proofs.Substituted.{one-deeper}
use Rattle.qtt_split.proofs.branching.+deeper.Goals as goal

pub all_deeper-returns : goal.all_deeper-returns
all_deeper-returns t c =
    let ss = c.args.sights.now in
    ap sights
    (c.loop-seen.invariant ∙
    ap (λ xs. map (λ s. seen_deeper (seen_of s)) xs) (take_all c.loop-seen.seen-index ss c.loop-seen-test.false)) ∙
    each-seen (λ i. Seen.open_at (suc i)) (λ i. var (suc i)) ss

pub deeper-returns-in_ok-shift-in-ByEquation : goal.deeper-returns-in_ok-shift-in-ByEquation
deeper-returns-in_ok-shift-in-ByEquation t c =
    let u = c.in-ByEquation.value in
    let v = c.in_ok-shift-in-ByEquation.field-0 in
    let after : seen_of (code.ByEquation v) ≡ Seen.by_equation (term v) = search (rules, the_lemmas) in
    let before : seen_of (code.ByEquation u) ≡ Seen.by_equation (term u) = search (rules, the_lemmas) in
    after ∙
    ap Seen.by_equation
    (c.in_ok-shift-in-ByEquation.ensures ∙ raised-zero 1 (term u) ∙ one-deeper (term u) ∙ ren-is-sub suc (term u)) ∙
    sym (ap seen_deeper (ap seen_of c.in-ByEquation.is ∙ before))
