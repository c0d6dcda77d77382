use Rattle.qtt_split.proofs.Stepping.{SteppedSoFar}
use Rattle.qtt_split.proofs.steps.+steps.Given as goal

abbrev pub invariant-all_steps-loop-target : goal.invariant-all_steps-loop-target
invariant-all_steps-loop-target l = SteppedSoFar l.targets l.target-index l.all.items
