-- What becomes of what was seen, in a branch of the code.
use Rattle.std.specs.Prelude.{ℕ, suc, map}
use Rattle.qtt_term.specs.Term.{var}
use Rattle.qtt_unify.specs.View.{solution}
use Rattle.qtt_split.specs.declared.branching.Branching.{Branching}
use Rattle.qtt_split.specs.Branch.{rebound, seen_as}
use Rattle.qtt_split.specs.Seen.{Seen, Sights, seen_by, all_seen_by, seen_deeper}
use Rattle.qtt_split.specs.Substitution.{stands_for}

-- under one binder more
abbrev pub deeper_sights : Sights → Sights
deeper_sights ss = all_seen_by (λ i. Seen.open_at (suc i)) (λ i. var (suc i)) ss

abbrev pub becomes : Branching → ℕ → Seen
becomes b =
    rebound (Seen.open_at 0) seen_deeper b.reverted.now
    (seen_as b.variable b.con (map solution b.solved.now) b.fields)

abbrev pub moved_seen : Branching → Seen → Seen
moved_seen b s = seen_by (becomes b) (stands_for b.stands.now) s

abbrev pub moved_sights : Branching → Sights → Sights
moved_sights b ss = all_seen_by (becomes b) (stands_for b.stands.now) ss
