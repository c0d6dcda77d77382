use Rattle.std.proofs.Common.{◌≡◌, map, take}
use Rattle.qtt_split.specs.Branching.{moved_seen}
use Rattle.qtt_split.specs.Sights.{seen_of}
use Rattle.qtt_split.proofs.branching.Branching.+moved.Given as goal

abbrev pub invariant-all_moved-loop-seen : goal.invariant-all_moved-loop-seen
invariant-all_moved-loop-seen l =
    map seen_of l.moved.items ≡ map (λ s. moved_seen l.self (seen_of s)) (take l.seen-index l.sights)
