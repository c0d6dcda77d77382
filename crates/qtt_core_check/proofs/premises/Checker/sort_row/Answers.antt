use Rattle.std.proofs.Common.{◌≡◌, ◌+◌, ◌<◌, suc, arith, refl, sym, ◌∙◌, ap}
use Rattle.std.proofs.lemmas.Bool.{lt-ltb}
use mathlib.Core.Path.{ap₂}
use Rattle.qtt_usage.specs.Usage.{no_usage}
use Rattle.qtt_term.specs.Term.{Sort}
use Rattle.qtt_term.specs.Infer.{inferred}
use Rattle.qtt_core_check.proofs.Views.{sort-seen}
use Rattle.qtt_core_check.proofs.Within.{on, on_done, fails_here, holds, unmet, reached}
use Rattle.qtt_core_check.proofs.premises.Checker.sort_row.Goals as goal

pub returns-then-level-eq4294967295-clause-gives : goal.returns-then-level-eq4294967295-clause-gives
returns-then-level-eq4294967295-clause-gives g c = fails_here _ (unmet _ _ (rw c.if-level-eq4294967295.true refl))

pub returns-clause-gives : goal.returns-clause-gives
returns-clause-gives g c =
    let h : c.args.level < 4294967295 = omega arith in
    let s : suc c.args.level ≡ c.args.level + 1 = omega arith in
    reached (on _ (holds _ _ (lt-ltb c.args.level 4294967295 h)) on_done)
    (ap₂ inferred (ap Sort s ∙ sym (sort-seen (c.args.level + 1)))
    (ap no_usage (sym c.in_ok-depth.ensures) ∙ sym c.in_ok-zero.ensures.uses))
