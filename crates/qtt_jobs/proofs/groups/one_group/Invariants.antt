use Rattle.std.proofs.Common.{◌≡◌, ◌++◌, map}
use Rattle.std.specs.Vec.Iter.{into_iter_items}
use Rattle.qtt_jobs.proofs.Stopping.{value}
use Rattle.qtt_jobs.proofs.groups.one_group.Given as goal

-- so far each answer was a value
abbrev pub invariant-loop-answer : goal.invariant-loop-answer
invariant-loop-answer g l =
    into_iter_items l.initial.answer-iterator ≡ map (value (g.W.Work.answers l.work)) l.values.items ++
    into_iter_items l.answer-iterator
