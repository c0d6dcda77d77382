use Rattle.std.proofs.Common.{length}
use Rattle.qtt_unify.proofs.Collected.{Collecting}
use Rattle.qtt_unify.proofs.equations.verdict_of_all.Given as goal

abbrev pub invariant-loop-first : goal.invariant-loop-first
invariant-loop-first l = Collecting l.inner l.fn.found.items l.found.items l.solutions.items

abbrev pub decreases-loop-first : goal.decreases-loop-first
decreases-loop-first l = length l.found.items
