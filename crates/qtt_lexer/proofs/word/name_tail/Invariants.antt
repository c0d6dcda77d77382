use Rattle.std.proofs.Common.{◌≡◌, ◌+◌, drop}
use Rattle.qtt_lexer.specs.Piece.{name_tail}
use Rattle.qtt_lexer.proofs.word.name_tail.Given as goal

abbrev pub invariant-loop-i : goal.invariant-loop-i
invariant-loop-i l = l.i + name_tail (drop l.i l.characters) ≡ name_tail l.characters
