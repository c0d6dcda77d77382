use Rattle.std.proofs.Common.{◌≡◌, take, eqb, length, true}
use Rattle.std.specs.List.{list_all}
use Rattle.qtt_term.proofs.conditions.are_counted.Given as goal

abbrev pub invariant-loop-constructor : goal.invariant-loop-constructor
invariant-loop-constructor l =
    list_all (λ c. eqb (length c.result.items) l.indices) (take l.constructor-index l.constructors) ≡ true
