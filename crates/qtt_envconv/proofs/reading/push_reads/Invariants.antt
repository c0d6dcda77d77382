use Rattle.std.proofs.Common.{◌≡◌, ◌++◌, vec_len}
use Rattle.qtt_envconv.specs.Tasks.{reads}
use Rattle.qtt_envconv.proofs.reading.push_reads.Given as goal

abbrev pub invariant-loop-part : goal.invariant-loop-part
invariant-loop-part l = l.tasks.items ++ reads l.parts.items ≡ l.initial.tasks.items ++ reads l.initial.parts.items

abbrev pub decreases-loop-part : goal.decreases-loop-part
decreases-loop-part l = vec_len l.parts
