use Rattle.std.proofs.Common.{◌≡◌, ◌-◌, map, length}
use Rattle.qtt_phrase.specs.Reading.{many_at}
use Rattle.qtt_syntax.specs.View.{argument_of}
use Rattle.qtt_grammar.specs.Classes.{is_left_brace}
use Rattle.qtt_grammar.specs.Grammar.{of}
use Rattle.qtt_grammar.specs.Readers.{brace_at}
use Rattle.qtt_grammar.specs.View.{inside, with_front}
use Rattle.qtt_grammar.proofs.Loops.{run_alike}
use Rattle.qtt_grammar.proofs.application.braces.Given as goal

abbrev pub invariant-braces : goal.invariant-braces
invariant-braces g l =
    with_front (map argument_of l.found.items)
    (run_alike (of is_left_brace) (inside brace_at l.level.pass l.level.left)
    (length l.ahead - l.counter) l.rest)
    ≡ many_at (of is_left_brace) (inside brace_at l.level.pass l.level.left) l.ahead
