use Rattle.qtt_cli.proofs.Ended.{Laws}
use Rattle.qtt_cli.proofs.Finished.{finished}
use Rattle.qtt_cli.proofs.Seeing.{seen_at, count, call_at}
use Rattle.qtt_cli.proofs.qtt_main.Goals as goal

pub returns-clause-answers : goal.returns-clause-answers
returns-clause-answers g c =
    let laws : Laws = record {
      derived = c.accepted_is_derived.ensures;
      reasons = c.refused_for_reason.ensures;
      lacking = c.absent_is_told.ensures;
      evaluations = c.runs_are_evaluations.ensures;
      complete = c.derived_goes_on.ensures;
      generated = c.generated_lack_none.ensures;
      jobs = c.jobs_change_nothing.ensures;
    } in
    let before = g.E.Sink.faults c.args.err.now in
    let now = g.E.Sink.faults c.finish.new.err in
    finished laws (call_at c.args.words.now
    (seen_at (g.V.Vault.texts c.args.vault.now) (g.I.Source.content c.args.input.now)
    (g.O.Sink.content c.args.out.now) (g.O.Sink.content c.work-went.new.out) (g.T.Tapes.tapes c.args.tapes.now)
    (g.T.Tapes.tapes c.work-went.new.tapes)
    (count (g.V.Vault.faults c.args.vault.now) (g.V.Vault.faults c.work-went.new.vault))
    (count (g.I.Source.faults c.args.input.now) (g.I.Source.faults c.work-went.new.input))
    (count (g.O.Sink.faults c.args.out.now) (g.O.Sink.faults c.work-went.new.out))
    (count (g.T.Tapes.faults c.args.tapes.now) (g.T.Tapes.faults c.work-went.new.tapes))
    (count (g.V.Vault.misses c.args.vault.now) (g.V.Vault.misses c.work-went.new.vault)))
    (g.E.Sink.content c.args.err.now) (g.E.Sink.content c.finish.new.err) (count before now))
    c.finish.result before now c.requires (λ rises. rises) c.work-went.result c.work-went.ensures.works c.finish.ensures
