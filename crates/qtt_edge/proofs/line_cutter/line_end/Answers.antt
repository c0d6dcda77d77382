use Rattle.std.proofs.Common.{add-one, arith}
use Rattle.qtt_edge.proofs.LineLemmas.{line_of-take, ends_at}
use Rattle.qtt_edge.proofs.line_cutter.line_end.Goals as goal

pub returns-then-held-i-eq10 : goal.returns-then-held-i-eq10
returns-then-held-i-eq10 c = ends_at c.args.held.now c.loop-i.i (omega arith) c.loop-i.invariant c.if-held-i-eq10.true

pub loop-i-preserved : goal.loop-i-preserved
loop-i-preserved c = rw add-one
    (line_of-take c.args.held.now c.loop-i.i (omega arith) c.loop-i.invariant c.if-held-i-eq10.false)
