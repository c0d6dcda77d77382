use Rattle.std.proofs.Common.{◌≡◌, take, true}
use Rattle.std.specs.List.{list_all}
use Rattle.qtt_term.specs.Globals.{env}
use Rattle.qtt_term.specs.Shape.{in_shape}
use Rattle.qtt_term.specs.View.{term}
use Rattle.qtt_term.proofs.shape.vars_in_shape.Given as goal

abbrev pub invariant-loop-mult : goal.invariant-loop-mult
invariant-loop-mult l = list_all (λ v. in_shape (env l.env) (term v.1)) (take l._mult-index l.vars) ≡ true
