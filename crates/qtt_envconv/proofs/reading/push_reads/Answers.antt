use Rattle.std.proofs.Common.{◌∙◌}
use Rattle.qtt_envconv.proofs.Finishing.{reads-last}
use Rattle.qtt_envconv.proofs.reading.push_reads.Goals as goal

pub loop-part-preserved : goal.loop-part-preserved
loop-part-preserved c =
    reads-last c.loop-part.tasks.items c.push.new.self.items c.pop.new.self.items c.loop-part.parts.items c.in-Some.part
    c.in-Some.ensures.items c.in_ok-push.ensures.items ∙ c.loop-part.invariant
