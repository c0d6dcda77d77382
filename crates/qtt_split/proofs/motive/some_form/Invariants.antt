use Rattle.std.proofs.Common.{◌≡◌, drop}
use Rattle.qtt_unify.specs.View.{all_terms}
use Rattle.qtt_split.specs.Motive.{some_form}
use Rattle.qtt_split.proofs.motive.some_form.Given as goal

abbrev pub invariant-loop-target : goal.invariant-loop-target
invariant-loop-target l =
    some_form (all_terms l.targets) ≡ some_form (all_terms (drop l.target-index l.targets))
