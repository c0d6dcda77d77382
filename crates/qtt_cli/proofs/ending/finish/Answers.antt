use Rattle.qtt_outcome.specs.Outcome.{line, usage_line}
use Rattle.qtt_cli.proofs.Reporting.{reports}
use Rattle.qtt_cli.proofs.ending.finish.Goals as goal

pub returns-in-Err-Usage : goal.returns-in-Err-Usage
returns-in-Err-Usage g c =
    let told = g.E.Sink.content in
    let faults = g.E.Sink.faults in
    let new = c.tell-in-Err-Usage.new.err in
    rw (c.in-Err-Usage.is, c.in-Err-Usage.field-0-is)
    (reports 64 (line usage_line) c.tell-in-Err-Usage.result (told c.args.err.now) (told new) (faults c.args.err.now)
    (faults new) c.tell-in-Err-Usage.ensures)
