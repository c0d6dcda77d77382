use Rattle.qtt_value.specs.View.{value}
use Rattle.qtt_run.specs.Stop.{failure}
use Rattle.qtt_run.proofs.Asked.{at-value, is-performed, effect-bound}
use Rattle.qtt_run.proofs.Stepping.{turn-failed}
use Rattle.qtt_run.proofs.running.Running.perform.Goals as goal

pub asked-requires : goal.asked-requires
asked-requires g c = is-performed c.args.self.now c.requires.1

pub give-requires : goal.give-requires
give-requires g c =
    let (o, a) = c.requires in
    let (m, e) = c.in-Give.ensures in
    (o, m, _, _, _, at-value c.args.self.now e a)

pub returns-in_err-give-in-Give-clause-turns : goal.returns-in_err-give-in-Give-clause-turns
returns-in_err-give-in-Give-clause-turns g c = λ o a.
    let (m, e) = c.in-Give.ensures in
    turn-failed failure o _ _ _ _ _ c.from_residual.result c.from_residual.ensures.1
    (c.in_err-give-in-Give.ensures.turns o m _ _ _ (at-value c.args.self.now e a))

pub returns-in_ok-give-in-Give-clause-turns : goal.returns-in_ok-give-in-Give-clause-turns
returns-in_ok-give-in-Give-clause-turns g c = λ o a.
    let (m, e) = c.in-Give.ensures in
    c.in_ok-give-in-Give.ensures.turns o m _ _ _ (at-value c.args.self.now e a)

pub get_line-requires : goal.get_line-requires
get_line-requires g c = let (o, a) = c.requires in (o, _, at-value c.args.self.now c.in-GetLine.ensures a)

pub returns-in-GetLine-clause-turns : goal.returns-in-GetLine-clause-turns
returns-in-GetLine-clause-turns g c =
    λ o a. c.get_line.ensures.turns o _ (at-value c.args.self.now c.in-GetLine.ensures a)

pub returns-in-Else-clause-turns : goal.returns-in-Else-clause-turns
returns-in-Else-clause-turns g c = λ o a.
    effect-bound c.args.self.now (value c.args.given) c.in-Else.field-0 c.in-Else.ensures a c.if-self-eq0.true

pub do_effect-requires-clause-at : goal.do_effect-requires-clause-at
do_effect-requires-clause-at g c = let (o, a) = c.requires in (o, value c.args.given, _, c.in-Else.ensures, a)

pub returns-in-Else-2-clause-turns : goal.returns-in-Else-2-clause-turns
returns-in-Else-2-clause-turns g c = λ o a. c.do_effect.ensures.turns o (value c.args.given) _ c.in-Else.ensures a
