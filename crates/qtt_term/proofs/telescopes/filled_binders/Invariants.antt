use Rattle.std.proofs.Common.{◌≡◌, take}
use Rattle.qtt_term.specs.Judgement.{scale, sub_binds}
use Rattle.qtt_term.specs.Telescopes.{tele, filled}
use Rattle.qtt_term.proofs.telescopes.filled_binders.Given as goal

abbrev pub invariant-loop-depth : goal.invariant-loop-depth
invariant-loop-depth l = tele l.all.items ≡ sub_binds (filled l.values) (scale l.by (tele (take l.depth l.binders)))
