use Rattle.std.proofs.Common.{◌≡◌, take, not, true}
use Rattle.std.specs.List.{list_all}
use Rattle.qtt_term.specs.Term.{same_id}
use Rattle.qtt_term.proofs.conditions.is_apart.Given as goal

abbrev pub invariant-loop-constructor : goal.invariant-loop-constructor
invariant-loop-constructor l = list_all (λ c. not (same_id l.id c.id)) (take l.constructor-index l.constructors) ≡ true
