use Rattle.std.proofs.Common.{◌≡◌, ◌++◌, List, length}
use Rattle.qtt_jobs.specs.Answered.{Answered}
use Rattle.qtt_jobs.proofs.groups.in_groups.Given as goal

-- those before what is left are answered
abbrev pub invariant-loop-rest : goal.invariant-loop-rest
invariant-loop-rest g l =
    (front : List g.row.J.Denot) × (front ++ l.rest ≡ l.jobs) × Answered (g.W.Work.answers l.work) front l.answers.items

abbrev pub decreases-loop-rest : goal.decreases-loop-rest
decreases-loop-rest g l = length l.rest
