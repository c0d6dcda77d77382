use Rattle.std.proofs.Common.{◌≡◌, take, true}
use Rattle.std.specs.List.{list_all}
use Rattle.qtt_term.specs.Globals.{env}
use Rattle.qtt_term.specs.Items.{definition}
use Rattle.qtt_term.specs.Shape.{definition_in_shape}
use Rattle.qtt_term.proofs.environment_shape.definitions_in_shape.Given as goal

abbrev pub invariant-loop-definition : goal.invariant-loop-definition
invariant-loop-definition l =
    list_all (λ x. definition_in_shape (env l.env) (definition x)) (take l.definition-index l.definitions) ≡ true
