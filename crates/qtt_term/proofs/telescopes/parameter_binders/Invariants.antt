use Rattle.std.proofs.Common.{◌≡◌, take, map}
use Rattle.qtt_usage.specs.Mult.{𝟘}
use Rattle.qtt_term.specs.View.{term}
use Rattle.qtt_term.specs.Telescopes.{tele}
use Rattle.qtt_term.proofs.telescopes.parameter_binders.Given as goal

abbrev pub invariant-loop-param : goal.invariant-loop-param
invariant-loop-param l = tele l.binders.items ≡ map (λ t. (𝟘, term t)) (take l.param-index l.param-items)
