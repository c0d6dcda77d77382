use Rattle.std.proofs.Common.{◌≡◌, drop}
use Rattle.qtt_unify.specs.View.{all_terms}
use Rattle.qtt_split.specs.Split.{first_mentioning}
use Rattle.qtt_split.proofs.limits.first_mentioning.Given as goal

abbrev pub invariant-loop-t : goal.invariant-loop-t
invariant-loop-t l =
    first_mentioning l.variables (all_terms l.terms) ≡ first_mentioning l.variables (all_terms (drop l.t-index l.terms))
