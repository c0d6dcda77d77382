use Rattle.std.proofs.Common.{◌≡◌, drop}
use Rattle.qtt_term.specs.Telescopes.{tele}
use Rattle.qtt_term.specs.View.{term}
use Rattle.qtt_split.specs.Tree.{lams}
use Rattle.qtt_module.proofs.bodies.function.Given as goal

abbrev pub invariant-loop-place : goal.invariant-loop-place
invariant-loop-place l = term l.function ≡ lams (tele (drop l.place l.binders)) (term l.fn.body)
