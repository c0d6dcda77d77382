use Rattle.std.proofs.Common.{◌≡◌, ◌++◌}
use Rattle.std.specs.List.{filter}
use Rattle.qtt_unify.specs.Targets.{is_free}
use Rattle.qtt_unify.specs.View.{scrutinee}
use Rattle.qtt_split.specs.Seen.{oldest_first}
use Rattle.qtt_split.proofs.free.free_variables.Given as goal

abbrev pub invariant-loop-variable : goal.invariant-loop-variable
invariant-loop-variable l =
    filter (is_free (scrutinee l.scrutinee)) (oldest_first l.count)
    ≡ l.free.items ++ filter (is_free (scrutinee l.scrutinee)) (oldest_first l.variable)
