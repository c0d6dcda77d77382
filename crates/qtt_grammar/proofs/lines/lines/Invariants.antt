use Rattle.std.proofs.Common.{◌≡◌, ◌-◌, [], ◌∷◌, map, length}
use Rattle.qtt_phrase.specs.Reading.{run_at}
use Rattle.qtt_syntax.specs.View.{statement_of}
use Rattle.qtt_grammar.specs.Classes.{is_next}
use Rattle.qtt_grammar.specs.Grammar.{of, may_end, may_go, next_line, standing_of}
use Rattle.qtt_grammar.specs.Readers.{line_at, lines_at}
use Rattle.qtt_grammar.specs.View.{inside, with_front}
use Rattle.qtt_grammar.proofs.lines.lines.Given as goal

abbrev pub invariant-lines : goal.invariant-lines
invariant-lines g l =
    with_front (map statement_of l.found.items)
    (run_at may_end may_go next_line (λ _. of is_next) (inside line_at l.level.pass l.level.left l.tail)
    (length l.ahead - l.counter) (length l.found.items, l.standing) l.rest)
    ≡ with_front (statement_of l.fn.first ∷ [])
    (inside lines_at l.level.pass l.level.left l.tail (1, standing_of (statement_of l.fn.first)) l.ahead)
