use Rattle.qtt_split.proofs.Gluing.{GluedSoFar}
use Rattle.qtt_split.proofs.assembly.+glued.Given as goal

abbrev pub invariant-glued_branches-loop-branch : goal.invariant-glued_branches-loop-branch
invariant-glued_branches-loop-branch l =
    GluedSoFar l.branches l.sides l.branch-index l.glued_branches.items l.rest
