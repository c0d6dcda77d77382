use Rattle.std.proofs.Common.{◌≡◌, ◌&&◌, take, true}
use Rattle.std.specs.List.{list_all}
use Rattle.qtt_term.specs.Globals.{env}
use Rattle.qtt_term.specs.Shape.{in_shape}
use Rattle.qtt_term.specs.View.{term}
use Rattle.qtt_term.proofs.shape.names_in_shape.Given as goal

abbrev pub invariant-loop-value : goal.invariant-loop-value
invariant-loop-value l = list_all (λ n. in_shape (env l.env) (term n.0) && in_shape (env l.env) (term n.1))
    (take l.value-index l.names) ≡ true
