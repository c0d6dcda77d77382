use Rattle.std.proofs.Common.{◌++◌, length}
use Rattle.qtt_lower.specs.Answered.{Answered}
use Rattle.qtt_lower.proofs.grouped.grouped.Given as goal

-- answers for the rest would make up the answers for all
abbrev pub invariant-loop-rest : goal.invariant-loop-rest
invariant-loop-rest g l =
    (xs : _) → Answered g.F.Fn l.work l.rest xs → Answered g.F.Fn l.work l.ids (l.answers.items ++ xs)

abbrev pub decreases-loop-rest : goal.decreases-loop-rest
decreases-loop-rest g l = length l.rest
