use Rattle.std.proofs.Common.{◌≡◌, take}
use Rattle.qtt_term.specs.View.{branches}
use Rattle.qtt_conv.proofs.frame.copy_branches.Given as goal

abbrev pub invariant-loop-source : goal.invariant-loop-source
invariant-loop-source l = branches l.copies.items ≡ branches (take l.source-index l.sources)
