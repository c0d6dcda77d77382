use Rattle.std.proofs.Common.{◌≡◌, map, take}
use Rattle.qtt_term.specs.Telescopes.{tele}
use Rattle.qtt_term.specs.View.{terms}
use Rattle.qtt_module.proofs.heads.types_of.Given as goal

abbrev pub invariant-loop-mult : goal.invariant-loop-mult
invariant-loop-mult l = terms l.types.items ≡ map (λ b. b.1) (tele (take l._mult-index l.binders))
