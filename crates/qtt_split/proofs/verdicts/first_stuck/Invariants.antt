use Rattle.std.proofs.Common.{◌≡◌, map, drop}
use Rattle.qtt_unify.specs.View.{verdict}
use Rattle.qtt_split.specs.Split.{first_stuck}
use Rattle.qtt_split.proofs.verdicts.first_stuck.Given as goal

abbrev pub invariant-loop-verdict : goal.invariant-loop-verdict
invariant-loop-verdict l =
    first_stuck (map verdict l.verdicts) ≡ first_stuck (map verdict (drop l.verdict-index l.verdicts))
