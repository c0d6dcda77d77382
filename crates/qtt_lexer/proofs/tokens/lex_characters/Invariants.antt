use Rattle.std.proofs.Common.{◌≡◌, ◌+◌, ◌*◌, ◌≤◌, length}
use Rattle.qtt_lexer.specs.Place.{start}
use Rattle.qtt_lexer.specs.Lexed.{tokens_from, with_front}
use Rattle.qtt_lexer.proofs.tokens.lex_characters.Given as goal

abbrev pub invariant-pieces : goal.invariant-pieces
invariant-pieces l = record {
  within : length l.rest ≤ length l.characters;
  line : l.place.line + length l.rest ≤ 1 + length l.characters;
  col : l.place.col + 8 * length l.rest ≤ 1 + 8 * length l.characters;
  same : with_front l.tokens.items (tokens_from l.broken l.place 0 l.rest) ≡ tokens_from l.broken start 0 l.characters;
}

abbrev pub decreases-pieces : goal.decreases-pieces
decreases-pieces l = length l.rest
