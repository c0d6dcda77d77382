use Rattle.std.proofs.Common.{◌≡◌, drop}
use Rattle.qtt_term.specs.Telescopes.{tele}
use Rattle.qtt_term.specs.View.{term}
use Rattle.qtt_split.specs.Motive.{pis}
use Rattle.qtt_split.proofs.motive.function_type.Given as goal

abbrev pub invariant-loop-place : goal.invariant-loop-place
invariant-loop-place l = term l.ty ≡ pis (tele (drop l.place l.binders)) (term l.fn.inner)
