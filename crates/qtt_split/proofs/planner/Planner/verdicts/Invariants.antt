use Rattle.std.proofs.Common.{length}
use Rattle.qtt_term.specs.Entries.{entries, env}
use Rattle.qtt_term.specs.Signature.{family_at}
use Rattle.qtt_unify.specs.View.{binders}
use Rattle.qtt_split.specs.Divisions.{division_of}
use Rattle.qtt_split.proofs.Tried.{VerdictsSoFar}
use Rattle.qtt_split.proofs.planner.Planner.verdicts.Given as goal

abbrev pub invariant-loop-place : goal.invariant-loop-place
invariant-loop-place g l =
    let E = env (entries l.self.unifier.globals.now) in
    VerdictsSoFar E l.self.unifier.budget (division_of (binders l.node.context.items) l.division)
    (length (family_at E l.division.family).params) l.constructors l.place l.verdicts.items
