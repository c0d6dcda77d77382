use Rattle.std.proofs.Common.{◌≡◌, ◌+◌, ◌*◌, ◌≤◌, take}
use Rattle.qtt_lexer.specs.Place.{place_after}
use Rattle.qtt_lexer.proofs.place.Place.after.Given as goal

abbrev pub invariant-loop-character : goal.invariant-loop-character
invariant-loop-character l = record {
  place : l.place ≡ place_after l.fn.self (take l.character-index l.characters);
  line : l.place.line ≤ l.fn.self.line + l.character-index;
  col : l.place.col ≤ l.fn.self.col + 8 * l.character-index;
}
