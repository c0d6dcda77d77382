use Rattle.std.proofs.Common.{sym, ◌∙◌}
use Rattle.qtt_bidi.specs.Seen.{locals}
use Rattle.qtt_holes.specs.View.{report_of}
use Rattle.qtt_holes.proofs.Fits.{use-passes, use-told}
use Rattle.qtt_holes.proofs.walker.Walker.use_passes.Goals as goal

pub returns-then-fits_before : goal.returns-then-fits_before
returns-then-fits_before g c =
    use-passes (locals c.args.scope.now).vars c.args.uses.now (report_of c.args.report.now) c.mult-declared.result
    c.use_of-used.result c.use_of-used.ensures c.mult-declared.ensures
    (sym c.fits_before.ensures ∙ c.if-fits_before.true)

pub returns : goal.returns
returns g c =
    use-told (locals c.args.scope.now).vars c.args.uses.now (report_of c.args.report.now) c.mult-declared.result
    c.use_of-used.result c.use_of-used.ensures c.mult-declared.ensures c.in_ok-name.name c.in_ok-name.ensures
    (sym c.fits_before.ensures ∙ c.if-fits_before.false)
