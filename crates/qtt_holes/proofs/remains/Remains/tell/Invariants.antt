use Rattle.std.proofs.Common.{◌≡◌, map}
use Rattle.qtt_holes.specs.Calls.{told, all_remains}
use Rattle.qtt_holes.specs.View.{seen as seen_of}
use Rattle.qtt_holes.proofs.Left.{changed}
use Rattle.qtt_holes.proofs.remains.Remains.tell.Given as goal

abbrev pub invariant-loop-one : goal.invariant-loop-one
invariant-loop-one l =
    map seen_of l.seen ≡ changed (told (all_remains l.self)) l.one-index (map seen_of l.fn.seen)
