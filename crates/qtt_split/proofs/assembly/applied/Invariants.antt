use Rattle.std.proofs.Common.{◌≡◌, drop}
use Rattle.qtt_term.specs.View.{term}
use Rattle.qtt_split.specs.Tree.{apps}
use Rattle.qtt_split.proofs.assembly.applied.Given as goal

abbrev pub invariant-loop-mult : goal.invariant-loop-mult
invariant-loop-mult l = apps (term l.applied) (drop l.mult-index l.reverted) ≡ apps (term l.fn.function) l.reverted
