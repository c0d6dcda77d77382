use Rattle.std.proofs.Common.{◌≡◌, take}
use Rattle.qtt_term.specs.Telescopes.{tele}
use Rattle.qtt_term.proofs.telescopes.copied_binders.Given as goal

abbrev pub invariant-loop-mult : goal.invariant-loop-mult
invariant-loop-mult l = tele l.copies.items ≡ tele (take l.mult-index l.binders)
