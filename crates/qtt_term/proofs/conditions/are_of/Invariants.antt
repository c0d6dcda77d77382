use Rattle.std.proofs.Common.{◌≡◌, take, eqb, true}
use Rattle.std.specs.List.{list_all}
use Rattle.qtt_term.proofs.conditions.are_of.Given as goal

abbrev pub invariant-loop-constructor : goal.invariant-loop-constructor
invariant-loop-constructor l = list_all (λ c. eqb c.id.module.0 l.id.0) (take l.constructor-index l.constructors) ≡ true
