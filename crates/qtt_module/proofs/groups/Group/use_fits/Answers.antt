use Rattle.std.proofs.Common.{sym, ◌∙◌}
use Rattle.qtt_term.specs.Contexts.{variables}
use Rattle.qtt_split.specs.View.{report_of}
use Rattle.qtt_module.proofs.Fitting.{use-fits, use-told}
use Rattle.qtt_module.proofs.groups.Group.use_fits.Goals as goal

pub returns-then-fits : goal.returns-then-fits
returns-then-fits g c =
    use-fits (variables c.args.context.now) c.args.uses.now (report_of c.args.report.now) c.mult-declared.result
    c.use_of-used.result c.use_of-used.ensures c.mult-declared.ensures (sym c.fits.ensures ∙ c.if-fits.true)

pub returns : goal.returns
returns g c =
    use-told (variables c.args.context.now) c.args.uses.now (report_of c.args.report.now) c.mult-declared.result
    c.use_of-used.result c.use_of-used.ensures c.mult-declared.ensures c.in_ok-copied_name.field-0
    c.in_ok-copied_name.ensures (sym c.fits.ensures ∙ c.if-fits.false)
