use Rattle.std.proofs.Common.{◌≡◌, false}
use Rattle.qtt_term.specs.Reading.{mentions_newest}
use Rattle.qtt_term.specs.View.{term}
use Rattle.qtt_unify.proofs.occurrences.mentions_newest.Given as goal

abbrev pub invariant-loop-variable : goal.invariant-loop-variable
invariant-loop-variable l = false ≡ mentions_newest l.variable (term l.source)
