use Rattle.qtt_bidi.specs.Seen.{locals, mode_of, judged_as}
use Rattle.qtt_bidi.proofs.Switching.{switch-refused, switch-gives}
use Rattle.qtt_bidi.proofs.Within.{passed}
use Rattle.qtt_bidi.proofs.premises.Elaborator.definition_name.Goals as goal

pub returns-in_err-found-clause-gives : goal.returns-in_err-found-clause-gives
returns-in_err-found-clause-gives g c =
    passed _ _ _ _ c.from_residual.result c.in_err-found.field-0.0 c.from_residual.ensures.1
    (switch-refused _ _ (locals c.args.scope.now) (mode_of c.args.mode) c.args.span _ _ c.in_err-found.ensures.gives)

pub returns-clause-gives : goal.returns-clause-gives
returns-clause-gives g c =
    switch-gives _ _ (locals c.args.scope.now) (mode_of c.args.mode) c.args.span _ judged_as c.switch.result
    c.in_ok-found.ensures.gives c.switch.ensures.gives
