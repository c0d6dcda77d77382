use Rattle.qtt_term.specs.Globals.{env}
use Rattle.qtt_unify.proofs.Continuing.{ReadSoFar}
use Rattle.qtt_unify.proofs.unifier.Unifier.readings.Given as goal

abbrev pub invariant-loop-index : goal.invariant-loop-index
invariant-loop-index g l =
    ReadSoFar (env l.self.globals.now) l.self.budget l.depth l.indices l.index-index l.targets.items
