use Rattle.std.proofs.Common.{◌≡◌, drop}
use Rattle.qtt_split.specs.Branching.{becomes}
use Rattle.qtt_split.specs.Seen.{Seen, seen_deeper}
use Rattle.qtt_split.specs.Sights.{seen_of}
use Rattle.qtt_split.proofs.Branched.{rebound_at}
use Rattle.qtt_split.proofs.branching.Branching.seen_at.Given as goal

abbrev pub invariant-loop-bound : goal.invariant-loop-bound
invariant-loop-bound l =
    becomes l.self l.variable
    ≡ rebound_at (Seen.open_at 0) seen_deeper (drop l.bound-index l.self.reverted.now) l.variable (seen_of l.seen)
