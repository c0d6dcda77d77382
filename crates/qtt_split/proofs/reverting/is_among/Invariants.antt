use Rattle.std.proofs.Common.{◌≡◌, drop}
use Rattle.qtt_split.specs.Branch.{is_among}
use Rattle.qtt_split.proofs.reverting.is_among.Given as goal

abbrev pub invariant-loop-other : goal.invariant-loop-other
invariant-loop-other l = is_among l.variable l.variables ≡ is_among l.variable (drop l.other-index l.variables)
