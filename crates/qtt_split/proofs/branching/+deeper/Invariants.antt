use Rattle.std.proofs.Common.{◌≡◌, map, take}
use Rattle.qtt_split.specs.Seen.{seen_deeper}
use Rattle.qtt_split.specs.Sights.{seen_of}
use Rattle.qtt_split.proofs.branching.+deeper.Given as goal

abbrev pub invariant-all_deeper-loop-seen : goal.invariant-all_deeper-loop-seen
invariant-all_deeper-loop-seen l =
    map seen_of l.all.items ≡ map (λ s. seen_deeper (seen_of s)) (take l.seen-index l.sights)
