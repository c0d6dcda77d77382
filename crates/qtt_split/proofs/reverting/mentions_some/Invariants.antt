use Rattle.std.proofs.Common.{◌≡◌, drop}
use Rattle.qtt_term.specs.View.{term}
use Rattle.qtt_split.specs.Branch.{mentions_some}
use Rattle.qtt_split.proofs.reverting.mentions_some.Given as goal

abbrev pub invariant-loop-variable : goal.invariant-loop-variable
invariant-loop-variable l =
    mentions_some l.variables (term l.t) ≡ mentions_some (drop l.variable-index l.variables) (term l.t)
