use Rattle.std.proofs.Common.{◌≡◌, map}
use Rattle.qtt_term.specs.Substitution.{shift}
use Rattle.qtt_unify.specs.View.{solution}
use Rattle.qtt_split.specs.Branch.{seen_as}
use Rattle.qtt_split.specs.Seen.{Seen}
use Rattle.qtt_split.proofs.Branched.{seen_past}
use Rattle.qtt_split.proofs.branching.Branching.under_fields.Given as goal

abbrev pub invariant-loop-other : goal.invariant-loop-other
invariant-loop-other l =
    seen_as l.self.variable l.self.con (map solution l.self.solved.now) l.self.fields l.variable
    ≡ seen_past l.self.solved.now l.other-index (λ i. Seen.open_at (shift l.self.fields i)) l.variable
