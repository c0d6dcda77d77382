use Rattle.std.proofs.Common.{◌≡◌, length}
use Rattle.qtt_term.specs.Term.{◌+++◌}
use Rattle.qtt_term.specs.View.{terms, side_by_side}
use Rattle.qtt_conv.specs.Frames.{literal_terms}
use Rattle.qtt_conv.proofs.frame.leading_literals.Given as goal

abbrev pub invariant-loop-literal : goal.invariant-loop-literal
invariant-loop-literal l =
    side_by_side (terms l.arguments) ≡ literal_terms l.literals.items +++ side_by_side (terms l.rest)

abbrev pub decreases-loop-literal : goal.decreases-loop-literal
decreases-loop-literal l = length l.rest
