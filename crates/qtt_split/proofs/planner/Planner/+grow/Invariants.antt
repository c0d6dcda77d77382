-- How many splits are left, and then what comes first at one node.
use Rattle.std.proofs.Common.{◌+◌, ◌*◌, length}
use Rattle.qtt_term.specs.Entries.{entries, env}
use Rattle.qtt_term.specs.Signature.{family_at}
use Rattle.qtt_split.specs.Calls.{group_of}
use Rattle.qtt_split.specs.Prepared.{grow_below}
use Rattle.qtt_split.specs.Sites.{site_of}
use Rattle.qtt_split.proofs.Joined.{BranchesSoFar}
use Rattle.qtt_split.proofs.planner.Planner.+grow.Given as goal

abbrev pub decreases-grow : goal.decreases-grow
decreases-grow g l = 3 * l.splits

abbrev pub decreases-branch : goal.decreases-branch
decreases-branch g l = 3 * l.splits + 1

abbrev pub decreases-branches : goal.decreases-branches
decreases-branches g l = 3 * l.splits + 2

abbrev pub invariant-branches-loop-place : goal.invariant-branches-loop-place
invariant-branches-loop-place g l =
    let E = env (entries l.self.unifier.globals.now) in
    BranchesSoFar E l.self.unifier.budget (grow_below l.splits (group_of l.self)) (site_of (group_of l.self) l.site)
    (length (family_at E l.site.division.now.family).params) l.constructors l.verdicts l.initial.left l.place
    l.branches.items l.left
