use Rattle.std.proofs.Common.{◌≡◌, ◌-◌, [], ◌∷◌, map, length}
use Rattle.qtt_syntax.specs.View.{con_of}
use Rattle.qtt_grammar.specs.Classes.{is_next}
use Rattle.qtt_grammar.specs.Grammar.{of}
use Rattle.qtt_grammar.specs.Readers.{next_con_at, more_cons_at}
use Rattle.qtt_grammar.specs.View.{within, with_front}
use Rattle.qtt_grammar.proofs.Loops.{counted_run}
use Rattle.qtt_grammar.proofs.item.more_cons.Given as goal

abbrev pub invariant-cons : goal.invariant-cons
invariant-cons l =
    with_front (map con_of l.found.items)
    (counted_run (of is_next) (within next_con_at l.level.pass l.level.left) (length l.ahead - l.counter)
    (length l.found.items) l.rest)
    ≡ with_front (con_of l.fn.first ∷ []) (within more_cons_at l.level.pass l.level.left 1 l.ahead)
