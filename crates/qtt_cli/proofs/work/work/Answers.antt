use Rattle.std.proofs.Common.{option_map, sym, ap, ◌∙◌}
use Rattle.std.proofs.lemmas.Result.{err_from_is_err_and}
use Rattle.qtt_words.specs.Requested.{requested}
use Rattle.qtt_cli.specs.Works.{Works}
use Rattle.qtt_cli.proofs.Overs.{does-nothing}
use Rattle.qtt_cli.proofs.work.work.Goals as goal

pub returns-in_err-request-clause-works : goal.returns-in_err-request-clause-works
returns-in_err-request-clause-works g c =
    let p = err_from_is_err_and c.from_residual.result c.from_residual.ensures.1 in
    rw (p.1, p.2)
    (Works.memory (does-nothing (g.O.Sink.content c.args.out.now) (g.T.Tapes.tapes c.args.tapes.now)))

pub returns-in-Some-clause-works : goal.returns-in-Some-clause-works
returns-in-Some-clause-works g c =
    Works.carried (sym c.in_ok-request.ensures ∙ ap (option_map requested) c.in-Some.is) c.carry_out.ensures.carries

pub returns-in-None-clause-works : goal.returns-in-None-clause-works
returns-in-None-clause-works g c =
    Works.usage (sym c.in_ok-request.ensures ∙ ap (option_map requested) c.in-None.is)
    (does-nothing (g.O.Sink.content c.args.out.now) (g.T.Tapes.tapes c.args.tapes.now))
