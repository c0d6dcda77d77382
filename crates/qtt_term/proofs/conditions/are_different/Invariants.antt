use Rattle.std.proofs.Common.{◌≡◌, map, drop}
use Rattle.qtt_term.specs.Keyed.{ids_differ}
use Rattle.qtt_term.proofs.conditions.are_different.Given as goal

abbrev pub invariant-loop-place : goal.invariant-loop-place
invariant-loop-place l = ids_differ (map (λ c. c.id) l.constructors) ≡ ids_differ
    (map (λ c. c.id) (drop l.place l.constructors))
