use Rattle.std.proofs.Common.{◌≡◌, take}
use Rattle.qtt_unify.specs.View.{all_terms}
use Rattle.qtt_split.specs.Branch.{raised}
use Rattle.qtt_split.proofs.constructors.raised.Given as goal

abbrev pub invariant-loop-source : goal.invariant-loop-source
invariant-loop-source l = all_terms l.terms.items ≡ raised l.by (all_terms (take l.source-index l.sources))
