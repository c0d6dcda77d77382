use Rattle.std.proofs.Common.{ap}
use Rattle.qtt_term.specs.View.{term}
use Rattle.qtt_bidi.specs.Seen.{mode_of, judged_as, locals}
use Rattle.qtt_bidi.proofs.Within.{passed}
use Rattle.qtt_bidi.proofs.Switching.{switch-synth, switch-differs, switch-agrees}
use Rattle.qtt_bidi.proofs.premises.Elaborator.switch.Goals as goal

pub returns-in-Synth-clause-gives : goal.returns-in-Synth-clause-gives
returns-in-Synth-clause-gives g c =
    switch-synth (locals c.args.scope.now) c.args.span (mode_of c.args.mode) (judged_as c.args.found)
    (ap mode_of c.in-Synth.is)

pub returns-in_err-agree-in-Check-clause-gives : goal.returns-in_err-agree-in-Check-clause-gives
returns-in_err-agree-in-Check-clause-gives g c =
    passed _ _ _ _ c.from_residual.result c.in_err-agree-in-Check.field-0.0 c.from_residual.ensures.1
    (switch-differs _ _ (locals c.args.scope.now) c.args.span (mode_of c.args.mode) (judged_as c.args.found)
    (term c.in-Check.ty) (ap mode_of c.in-Check.is) _ c.in_err-agree-in-Check.ensures)

pub returns-in_ok-agree-in-Check-clause-gives : goal.returns-in_ok-agree-in-Check-clause-gives
returns-in_ok-agree-in-Check-clause-gives g c =
    switch-agrees (locals c.args.scope.now) c.args.span (mode_of c.args.mode) (judged_as c.args.found)
    (term c.in-Check.ty) (ap mode_of c.in-Check.is) c.in_ok-agree-in-Check.ensures
