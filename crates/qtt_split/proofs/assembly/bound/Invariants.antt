use Rattle.std.proofs.Common.{◌≡◌, drop}
use Rattle.qtt_term.specs.Telescopes.{tele}
use Rattle.qtt_term.specs.View.{term}
use Rattle.qtt_split.specs.Tree.{lams}
use Rattle.qtt_split.proofs.assembly.bound.Given as goal

abbrev pub invariant-loop-place : goal.invariant-loop-place
invariant-loop-place l = term l.bound ≡ lams (tele (drop l.place l.binders)) (term l.fn.body)
