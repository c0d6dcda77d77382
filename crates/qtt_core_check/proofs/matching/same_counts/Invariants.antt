use Rattle.std.proofs.Common.{◌≡◌, map, drop, length}
use Rattle.qtt_term.specs.Question.{same_counts}
use Rattle.qtt_term.specs.View.{branches}
use Rattle.qtt_core_check.proofs.matching.same_counts.Given as goal

abbrev pub invariant-loop-place : goal.invariant-loop-place
invariant-loop-place l =
    same_counts (map (λ b. b.0) (branches l.branches)) (map (λ c. length c.fields.items) l.constructors)
    ≡ same_counts (map (λ b. b.0) (branches (drop l.place l.branches)))
    (map (λ c. length c.fields.items) (drop l.place l.constructors))
