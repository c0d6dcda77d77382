use Rattle.std.proofs.Common.{◌≡◌, ◌++◌, map, drop}
use Rattle.qtt_syntax.specs.View.{shape_of}
use Rattle.qtt_term.specs.Entries.{entries}
use Rattle.qtt_split.specs.Seen.{pattern_list}
use Rattle.qtt_split.specs.Sights.{sights_of}
use Rattle.qtt_split.proofs.leading.+leading.Given as goal

abbrev pub invariant-pattern_list-loop-one : goal.invariant-pattern_list-loop-one
invariant-pattern_list-loop-one l =
    pattern_list (entries l.globals) l.place (sights_of l.seen)
    ≡ map shape_of l.patterns.items ++ pattern_list (entries l.globals) l.place (sights_of (drop l.one-index l.seen))
