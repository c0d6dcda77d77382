use Rattle.std.proofs.Common.{Ok, sym, subst}
use Rattle.std.proofs.lemmas.Result.{err_from_is_err_and}
use Rattle.qtt_term.specs.Globals.{env}
use Rattle.qtt_run.specs.declared.program.RunHow.TheVariants as how
use Rattle.qtt_cli.specs.declared.verdict.Verdict.{Verdict}
use Rattle.qtt_cli.specs.Running.{RunsAs}
use Rattle.qtt_cli.proofs.Went.{at_run, ran-so, ran-out}
use Rattle.qtt_cli.proofs.running.run.Goals.{in-Ended, in-Trapped, in-Bound}
use Rattle.qtt_cli.proofs.running.run.Goals as goal

pub returns-in_err-end-clause-runs : goal.returns-in_err-end-clause-runs
returns-in_err-end-clause-runs g c =
    let E = env c.args.program.now.built.env in
    let p = err_from_is_err_and c.from_residual.result c.from_residual.ensures.1 in
    rw (p.1, p.2)
    (ran-out c.args.steps E c.args.program.now.main (g.I.Source.content c.args.input.now)
    (at_run (g.O.Sink.content c.args.out.now) (g.O.Sink.content c.run_program.new.out)
    (g.T.Tapes.tapes c.args.tapes.now) (g.T.Tapes.tapes c.run_program.new.tapes))
    c.in_err-end.field-0.0 (c.in_err-end.ensures.runs E c.requires.code))

pub returns-in-SourceFault-clause-runs : goal.returns-in-SourceFault-clause-runs
returns-in-SourceFault-clause-runs g c =
    let E = env c.args.program.now.built.env in
    ran-so c.args.steps E c.args.program.now.main (g.I.Source.content c.args.input.now)
    (at_run (g.O.Sink.content c.args.out.now) (g.O.Sink.content c.run_program.new.out)
    (g.T.Tapes.tapes c.args.tapes.now) (g.T.Tapes.tapes c.run_program.new.tapes))
    c.in_ok-end.end how.SourceFault c.in-SourceFault.is (c.in_ok-end.ensures.runs E c.requires.code)

pub returns-in-SinkFault-clause-runs : goal.returns-in-SinkFault-clause-runs
returns-in-SinkFault-clause-runs g c =
    let E = env c.args.program.now.built.env in
    ran-so c.args.steps E c.args.program.now.main (g.I.Source.content c.args.input.now)
    (at_run (g.O.Sink.content c.args.out.now) (g.O.Sink.content c.run_program.new.out)
    (g.T.Tapes.tapes c.args.tapes.now) (g.T.Tapes.tapes c.run_program.new.tapes))
    c.in_ok-end.end how.SinkFault c.in-SinkFault.is (c.in_ok-end.ensures.runs E c.requires.code)

pub returns-in-TapeFault-clause-runs : goal.returns-in-TapeFault-clause-runs
returns-in-TapeFault-clause-runs g c =
    let E = env c.args.program.now.built.env in
    ran-so c.args.steps E c.args.program.now.main (g.I.Source.content c.args.input.now)
    (at_run (g.O.Sink.content c.args.out.now) (g.O.Sink.content c.run_program.new.out)
    (g.T.Tapes.tapes c.args.tapes.now) (g.T.Tapes.tapes c.run_program.new.tapes))
    c.in_ok-end.end how.TapeFault c.in-TapeFault.is (c.in_ok-end.ensures.runs E c.requires.code)

pub returns-clause-runs : goal.returns-clause-runs
returns-clause-runs g c =
    let E = env c.args.program.now.built.env in
    let main = c.args.program.now.main in
    let content = g.I.Source.content c.args.input.now in
    let o = at_run (g.O.Sink.content c.args.out.now) (g.O.Sink.content c.run_program.new.out)
    (g.T.Tapes.tapes c.args.tapes.now) (g.T.Tapes.tapes c.run_program.new.tapes) in
    let used = c.in_ok-end.end.used in
    let full = c.in_ok-end.ensures.runs E c.requires.code in
    let of = λ (v : Verdict). RunsAs c.args.steps E main content o (Ok (record { verdict = v; used = used })) in
    elim c.match-end.branch [
      | in-Ended w ↦ subst of (sym w.verdict-is)
          (ran-so c.args.steps E main content o c.in_ok-end.end how.Ended w.in-Ended.is full)
      | in-Trapped w ↦ subst of (sym w.verdict-is)
          (ran-so c.args.steps E main content o c.in_ok-end.end (how.Trapped w.in-Trapped.kind) w.in-Trapped.is full)
      | in-Bound w ↦ subst of (sym w.verdict-is)
          (ran-so c.args.steps E main content o c.in_ok-end.end how.Bound w.in-Bound.is full)
    ]
