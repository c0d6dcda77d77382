use Rattle.std.proofs.Common.{◌≡◌}
use Rattle.qtt_term.specs.Term.{◌+++◌}
use Rattle.qtt_term.specs.Substitution.{above}
use Rattle.qtt_unify.specs.View.{all_terms}
use Rattle.qtt_split.proofs.constructors.above.Given as goal

abbrev pub invariant-loop-place : goal.invariant-loop-place
invariant-loop-place l =
    above l.newest l.count ≡ all_terms l.variables.items +++ above l.newest l.place
