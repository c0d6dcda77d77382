use Rattle.std.proofs.Common.{◌-◌, ◌≤◌, length}
use Rattle.qtt_grammar.specs.Grammar.{start}
use Rattle.qtt_grammar.specs.Readers.{entry_at, entries_at}
use Rattle.qtt_grammar.specs.View.{within, body_of, place_of}
use Rattle.qtt_grammar.proofs.Entries.{ReadSoFar}
use Rattle.qtt_grammar.proofs.text.entries.Given as goal

abbrev pub invariant-entries : goal.invariant-entries
invariant-entries l =
    ReadSoFar (within entry_at l.level.pass l.level.left) (body_of l.body) (place_of l.body)
    (length l.ahead - l.counter) l.rest (within entries_at l.level.pass l.level.left start l.ahead)
    × (l.body.clauses ≤ l.counter)
