use Rattle.std.proofs.Common.{◌≡◌, ◌-◌, length}
use Rattle.qtt_term.specs.Term.{◌+++◌}
use Rattle.qtt_term.specs.Substitution.{above}
use Rattle.qtt_term.specs.View.{terms, side_by_side}
use Rattle.qtt_term.proofs.telescopes.variables.Given as goal

abbrev pub invariant-loop-place : goal.invariant-loop-place
invariant-loop-place l =
    (side_by_side (terms l.variables.items) +++ above l.newest (l.count - l.place) ≡ above l.newest l.count) ×
    (length l.variables.items ≡ l.place)
