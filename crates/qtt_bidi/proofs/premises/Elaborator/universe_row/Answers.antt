use Rattle.std.proofs.Common.{◌≡◌, ◌+◌, suc, sym, ap, ◌∙◌, rules, arith}
use mathlib.Core.Path.{ap₂}
use Rattle.qtt_term.specs.Term.{Sort}
use Rattle.qtt_term.specs.Ask.{Ask}
use Rattle.qtt_core_check.proofs.Views.{sort-seen}
use Rattle.qtt_rules.specs.Judged.{judged}
use Rattle.qtt_bidi.specs.Elaboration.{switched, unused}
use Rattle.qtt_bidi.specs.Seen.{locals, mode_of, judged_as}
use Rattle.qtt_bidi.proofs.Within.{same}
use Rattle.qtt_bidi.proofs.premises.Elaborator.universe_row.Goals as goal

pub returns-clause-gives : goal.returns-clause-gives
returns-clause-gives g c = λ p s.
    let l : c.in-Ok.level ≡ c.args.level = search rules in
    let e : c.in-Some.above ≡ c.in-Ok.level + 1 = search rules in
    let n : c.in-Some.above ≡ suc c.args.level = omega (arith, l, e) in
    let S = locals c.args.scope.now in
    same _ _ _ _ judged_as c.plain_row.result
    (ap₂ (λ A t. switched S (mode_of c.args.mode) c.args.span (Ask.done (judged A t (unused S))))
    (sym (sort-seen c.in-Some.above ∙ ap Sort n)) (sym (sort-seen c.in-Ok.level ∙ ap Sort l)))
    c.plain_row.ensures.gives
