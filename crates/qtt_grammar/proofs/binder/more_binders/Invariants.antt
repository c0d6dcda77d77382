use Rattle.std.proofs.Common.{◌≡◌, ◌-◌, map, length}
use Rattle.qtt_phrase.specs.Reading.{many_at}
use Rattle.qtt_syntax.specs.View.{binder_of}
use Rattle.qtt_grammar.specs.Classes.{starts_binder}
use Rattle.qtt_grammar.specs.Grammar.{of}
use Rattle.qtt_grammar.specs.Readers.{binder_at}
use Rattle.qtt_grammar.specs.View.{inside, with_front}
use Rattle.qtt_grammar.proofs.Loops.{run_alike}
use Rattle.qtt_grammar.proofs.binder.more_binders.Given as goal

abbrev pub invariant-binders : goal.invariant-binders
invariant-binders g l =
    with_front (map binder_of l.found.items)
    (run_alike (of starts_binder) (inside binder_at l.level.pass l.level.left)
    (length l.ahead - l.counter) l.rest)
    ≡ with_front (map binder_of l.fn.found.items)
    (many_at (of starts_binder) (inside binder_at l.level.pass l.level.left) l.ahead)
