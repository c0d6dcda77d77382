use Rattle.std.proofs.Common.{◌≡◌, ◌+◌, ◌*◌, ◌-◌, map, length}
use Rattle.std.specs.Prelude.{suc}
use Rattle.qtt_phrase.specs.Reading.{counted_at}
use Rattle.qtt_syntax.specs.View.{shape_of}
use Rattle.qtt_grammar.specs.Classes.{starts_pattern}
use Rattle.qtt_grammar.specs.Grammar.{of}
use Rattle.qtt_grammar.specs.Readers.{one_pattern_at, levels_at}
use Rattle.qtt_grammar.specs.View.{with_front}
use Rattle.qtt_grammar.proofs.Loops.{counted_run}
use Rattle.qtt_grammar.proofs.pattern.+pattern.Given as goal

abbrev pub decreases-bracketed : goal.decreases-bracketed
decreases-bracketed l = 4 * l.level.left

abbrev pub decreases-pattern : goal.decreases-pattern
decreases-pattern l = 4 * l.level.left + 1

abbrev pub decreases-another : goal.decreases-another
decreases-another l = 4 * l.level.left + 2

abbrev pub decreases-patterns : goal.decreases-patterns
decreases-patterns l = 4 * l.level.left + 3

abbrev pub invariant-patterns-patterns : goal.invariant-patterns-patterns
invariant-patterns-patterns l =
    with_front (map shape_of l.found.items)
    (counted_run (of starts_pattern) (one_pattern_at l.level.pass (levels_at l.level.pass l.level.left))
    (length l.ahead - l.counter) (length l.found.items) l.rest)
    ≡ counted_at (λ n _. suc n) (of starts_pattern)
    (one_pattern_at l.level.pass (levels_at l.level.pass l.level.left)) 0 l.ahead
