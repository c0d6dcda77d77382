use Rattle.std.proofs.Common.{sym, ◌∙◌, subst, option_map}
use Rattle.qtt_term.specs.Contexts.{part}
use Rattle.qtt_term.specs.Entries.{entries, env}
use Rattle.qtt_rules.specs.Refusal.{Cause, at}
use Rattle.qtt_bidi.specs.Answers.{Fails}
use Rattle.qtt_bidi.specs.Elaboration.{bound_name}
use Rattle.qtt_bidi.specs.Premises.{fit}
use Rattle.qtt_bidi.proofs.Fitting.{fit-holds, fit-fails}
use Rattle.qtt_bidi.proofs.premises.Elaborator.fitting.Goals as goal

pub returns-then-fits_within-clause-gives : goal.returns-then-fits_within-clause-gives
returns-then-fits_within-clause-gives g c =
    fit-holds _ c.args.declared c.pop-used.result c.args.uses c.pop-used.new.self _ (part c.args.sigma)
    c.pop-used.ensures (sym c.fits_within.ensures ∙ c.if-fits_within.true)

pub returns-clause-gives : goal.returns-clause-gives
returns-clause-gives g c =
    let E = env (entries c.args.self.now.globals.now) in
    let q = c.args.declared in
    let u = c.pop-used.result in
    let x = bound_name (option_map (λ x. x.now) c.args.name) in
    let w = at c.args.span c.args.rule c.args.number in
    subst (λ y. Fails E c.args.self.now.budget (fit (part c.args.sigma) x q c.args.uses w) (Cause.wrong_usage y q u) w)
    (sym c.in_ok-name.ensures)
    (fit-fails x q u c.args.uses c.pop-used.new.self w (part c.args.sigma) c.pop-used.ensures
    (sym c.fits_within.ensures ∙ c.if-fits_within.false))
