use Rattle.std.proofs.Common.{◌≡◌, ◌++◌, map, take}
use Rattle.qtt_term.specs.Entries.{entries}
use Rattle.qtt_holes.specs.HoleText.{seen_lines}
use Rattle.qtt_holes.specs.View.{seen as seen_of}
use Rattle.qtt_holes.proofs.telling.put_all_seen.Given as goal

abbrev pub invariant-loop-one : goal.invariant-loop-one
invariant-loop-one l =
    l.out.items ≡ l.fn.out.items ++ seen_lines (entries l.names) l.depth (map seen_of (take l.one-index l.seen))
