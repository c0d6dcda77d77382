use Rattle.std.proofs.Common.{◌≡◌, take, map}
use Rattle.qtt_term.specs.Substitution.{ren, shift}
use Rattle.qtt_term.specs.View.{terms}
use Rattle.qtt_term.proofs.telescopes.under.Given as goal

abbrev pub invariant-loop-value : goal.invariant-loop-value
invariant-loop-value l = terms l.raised.items ≡ map (ren (shift l.by)) (terms (take l.value-index l.values))
