use Rattle.std.proofs.Common.{◌≡◌, ◌-◌, map, length}
use Rattle.qtt_phrase.specs.Reading.{many_at, making_at}
use Rattle.qtt_syntax.specs.View.{argument_of}
use Rattle.qtt_grammar.specs.Classes.{starts_atom}
use Rattle.qtt_grammar.specs.Grammar.{of, written_of}
use Rattle.qtt_grammar.specs.Readers.{atom_at}
use Rattle.qtt_grammar.specs.View.{inside, with_front}
use Rattle.qtt_grammar.proofs.Loops.{run_alike}
use Rattle.qtt_grammar.proofs.application.atoms.Given as goal

abbrev pub invariant-atoms : goal.invariant-atoms
invariant-atoms g l =
    with_front (map argument_of l.found.items)
    (run_alike (of starts_atom) (making_at written_of (inside atom_at l.level.pass l.level.left))
    (length l.ahead - l.counter) l.rest)
    ≡ with_front (map argument_of l.fn.found.items)
    (many_at (of starts_atom) (making_at written_of (inside atom_at l.level.pass l.level.left)) l.ahead)
