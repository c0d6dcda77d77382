-- The variable that is looked for stands for the same, and the values are fewer.
use Rattle.std.proofs.Common.{◌≡◌}
use Rattle.qtt_term.specs.Substitution.{ren, shift}
use Rattle.qtt_envconv.specs.declared.closure.Values.{size-Values}
use Rattle.qtt_envconv.specs.Closures.{values}
use Rattle.qtt_envconv.proofs.closure.Values.found.Given as goal

abbrev pub invariant-loop-values : goal.invariant-loop-values
invariant-loop-values l = ren (shift l.depth) (values l.values l.index) ≡ values l.self l.initial.index

abbrev pub decreases-loop-values : goal.decreases-loop-values
decreases-loop-values l = size-Values l.values
