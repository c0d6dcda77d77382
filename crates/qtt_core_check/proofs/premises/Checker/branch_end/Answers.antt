use Rattle.std.proofs.Common.{◌∙◌, sym, ap, rules, arith, length}
use Rattle.std.proofs.lemmas.List.{length-drop}
use Rattle.qtt_term.specs.Contexts.{part}
use Rattle.qtt_term.specs.View.{term}
use Rattle.qtt_term.specs.Telescopes.{tele}
use Rattle.qtt_core_check.specs.Cases.{fits_within}
use Rattle.qtt_core_check.proofs.Scopes.{length-tele}
use Rattle.qtt_core_check.proofs.Within.{reached}
use Rattle.qtt_core_check.proofs.Matches.{unbound-unfit, unbound-fit}
use Rattle.qtt_core_check.proofs.premises.Checker.branch_end.Goals as goal

pub returns-then-not-fits_within-clause-gives : goal.returns-then-not-fits_within-clause-gives
returns-then-not-fits_within-clause-gives g c =
    let p = part c.args.sigma in
    let b = term c.args.body.now in
    unbound-unfit p (tele c.args.binders.now) b c.args.uses _
    (ap (fits_within p b) (sym (ap (λ r. r.0) c.fit_binders-fit.ensures)) ∙ sym c.fits_within.ensures ∙ search rules)

pub returns-clause-gives : goal.returns-clause-gives
returns-clause-gives g c =
    let p = part c.args.sigma in
    let b = term c.args.body.now in
    reached
    (unbound-fit p (tele c.args.binders.now) b c.args.uses _
    (ap (fits_within p b) (sym (ap (λ r. r.0) c.fit_binders-fit.ensures)) ∙ sym c.fits_within.ensures ∙
    search rules))
    (sym (ap (λ r. r.1) c.fit_binders-fit.ensures))

pub returns-clause-len : goal.returns-clause-len
returns-clause-len g c =
    omega (
      arith,
      ap length (ap (λ r. r.1) c.fit_binders-fit.ensures),
      length-drop (length (tele c.args.binders.now)) c.args.uses,
      length-tele c.args.binders.now,
      c.requires,
    )
