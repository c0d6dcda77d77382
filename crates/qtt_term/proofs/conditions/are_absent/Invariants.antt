use Rattle.std.proofs.Common.{◌≡◌, take, true}
use Rattle.std.specs.List.{list_all}
use Rattle.qtt_term.specs.Globals.{is_absent}
use Rattle.qtt_term.proofs.conditions.are_absent.Given as goal

abbrev pub invariant-loop-constructor : goal.invariant-loop-constructor
invariant-loop-constructor l = list_all (λ c. is_absent l.globals c.id) (take l.constructor-index l.constructors) ≡ true
