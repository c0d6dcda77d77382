use Rattle.std.proofs.Common.{◌≡◌, take, true}
use Rattle.std.specs.List.{list_all}
use Rattle.qtt_term.specs.Globals.{env}
use Rattle.qtt_term.specs.Items.{family}
use Rattle.qtt_term.specs.Shape.{family_in_shape}
use Rattle.qtt_term.proofs.environment_shape.families_in_shape.Given as goal

abbrev pub invariant-loop-family : goal.invariant-loop-family
invariant-loop-family l = list_all (λ x. family_in_shape (env l.env) (family x)) (take l.family-index l.families) ≡ true
