use Rattle.std.proofs.Common.{◌≡◌, take, true}
use Rattle.std.specs.List.{list_all}
use Rattle.qtt_term.specs.Globals.{env}
use Rattle.qtt_term.specs.Items.{constructor}
use Rattle.qtt_term.specs.Shape.{constructor_in_shape}
use Rattle.qtt_term.proofs.environment_shape.constructors_in_shape.Given as goal

abbrev pub invariant-loop-constructor : goal.invariant-loop-constructor
invariant-loop-constructor l =
    list_all (λ x. constructor_in_shape (env l.env) (constructor x)) (take l.constructor-index l.constructors) ≡ true
