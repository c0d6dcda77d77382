use Rattle.std.proofs.Common.{sym, ◌∙◌, subst, option_map}
use Rattle.qtt_term.specs.Contexts.{part}
use Rattle.qtt_term.specs.Entries.{entries, env}
use Rattle.qtt_rules.specs.Refusal.{Cause, at}
use Rattle.qtt_bidi.specs.Answers.{Fails}
use Rattle.qtt_bidi.specs.Elaboration.{bound_name}
use Rattle.qtt_holes.specs.Walk.{fit_before}
use Rattle.qtt_holes.proofs.Fits.{fits, unfit}
use Rattle.qtt_holes.proofs.walker.Walker.fit_before.Goals as goal
use Rattle.std.specs.Prelude.{◌∷◌}

pub returns-then-fits_within : goal.returns-then-fits_within
returns-then-fits_within g c =
    λ us. fits _ c.args.declared c.args.used us _ (part c.args.self.now.sigma)
    (sym c.fits_within.ensures ∙ c.if-fits_within.true)

pub returns : goal.returns
returns g c =
    λ us.
    let E = env (entries c.args.self.now.elaborator.globals.now) in
    let N = c.args.self.now.elaborator.budget in
    let p = part c.args.self.now.sigma in
    let q = c.args.declared in
    let u = c.args.used in
    let x = bound_name (option_map (λ x. x.now) c.args.name) in
    let w = at c.args.span c.args.rule c.args.number in
    subst (λ y. Fails E N (fit_before p x q (u ∷ us) w) (Cause.wrong_usage y q u) w) (sym c.in_ok-name.ensures)
    (unfit x q u us w p (sym c.fits_within.ensures ∙ c.if-fits_within.false))
