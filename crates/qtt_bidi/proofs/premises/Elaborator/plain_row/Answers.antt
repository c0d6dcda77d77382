use Rattle.std.proofs.Common.{sym}
use Rattle.qtt_bidi.specs.Seen.{judged_as, locals, mode_of}
use Rattle.qtt_bidi.proofs.Within.{on_done, reached}
use Rattle.qtt_bidi.proofs.Switching.{switch-gives}
use Rattle.qtt_bidi.proofs.premises.Elaborator.plain_row.Goals as goal

pub returns-clause-gives : goal.returns-clause-gives
returns-clause-gives g c =
    switch-gives _ _ (locals c.args.scope.now) (mode_of c.args.mode) c.args.span _ judged_as c.switch.result
    (reached on_done (sym c.in_ok-found.ensures.gives))
    c.switch.ensures.gives
