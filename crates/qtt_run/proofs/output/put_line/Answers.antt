use Rattle.std.proofs.Common.{◌++◌, ◌∷◌, []}
use Rattle.qtt_run.proofs.Outcome.{on-err, adds-none}
use Rattle.qtt_run.proofs.output.put_line.Goals as goal

pub returns-in_err-bytes-clause-err : goal.returns-in_err-bytes-clause-err
returns-in_err-bytes-clause-err g c =
    on-err c.from_residual.result (adds-none (g.O.Sink.content c.args.out.now) (c.args.line.now ++ 10 ∷ []))
