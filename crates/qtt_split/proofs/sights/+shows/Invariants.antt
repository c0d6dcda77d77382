use Rattle.std.proofs.Common.{◌≡◌, drop}
use Rattle.qtt_split.specs.Seen.{any_shows}
use Rattle.qtt_split.specs.Sights.{sights_of}
use Rattle.qtt_split.proofs.sights.+shows.Given as goal

abbrev pub invariant-any_shows-loop-seen : goal.invariant-any_shows-loop-seen
invariant-any_shows-loop-seen l =
    any_shows l.variable (sights_of l.sights) ≡ any_shows l.variable (sights_of (drop l.seen-index l.sights))
