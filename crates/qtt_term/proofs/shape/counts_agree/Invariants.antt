use Rattle.std.proofs.Common.{◌≡◌, drop}
use Rattle.qtt_term.specs.Question.{same_counts}
use Rattle.qtt_term.proofs.Shaped.{binders_of, fields_of}
use Rattle.qtt_term.proofs.shape.counts_agree.Given as goal

abbrev pub invariant-loop-place : goal.invariant-loop-place
invariant-loop-place l =
    same_counts (binders_of l.branches) (fields_of l.constructors) ≡ same_counts
    (binders_of (drop l.place l.branches)) (fields_of (drop l.place l.constructors))
