use Rattle.std.proofs.Common.{length}
use Rattle.qtt_holes.proofs.sight.+outer_sight.Given as goal

abbrev pub decreases-outer_sight : goal.decreases-outer_sight
decreases-outer_sight l = length l.names.now
