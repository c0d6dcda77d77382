-- Occurrences of a variable in the components that lists make, as sums.
use Rattle.std.proofs.lemmas.Grind.{common_steps}
use Rattle.std.proofs.lemmas.List.{length-map}
use Rattle.qtt_term.specs.declared.term.Term.{the_lemmas}
use Rattle.qtt_unify.proofs.Counted.{all_joined, all_appended, all_behind, all_branches, branches_appended, occurrences-here}

pub ruleset summing = (
  the_lemmas,
  common_steps,
  length-map,
  all_joined,
  all_appended,
  all_behind,
  all_branches,
  branches_appended,
  occurrences-here,
)
