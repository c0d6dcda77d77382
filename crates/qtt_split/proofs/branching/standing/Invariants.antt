use Rattle.std.proofs.Common.{◌≡◌, ℕ, map, drop}
use Rattle.qtt_term.specs.Substitution.{shift}
use Rattle.qtt_term.specs.Term.{var}
use Rattle.qtt_unify.specs.View.{solution}
use Rattle.qtt_split.specs.Branch.{put_all}
use Rattle.qtt_split.specs.Substitution.{stands_for}
use Rattle.qtt_split.proofs.branching.standing.Given as goal

abbrev pub invariant-loop-place : goal.invariant-loop-place
invariant-loop-place l =
    (i : ℕ) → stands_for l.stands i ≡ put_all (map solution (drop l.place l.solved)) (λ j. var (shift l.fields j)) i
