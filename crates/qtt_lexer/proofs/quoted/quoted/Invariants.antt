use Rattle.std.proofs.Common.{◌≡◌, ◌-◌, ◌≤◌, length, string_bytes}
use Rattle.qtt_lexer.specs.Piece.{quoted}
use Rattle.qtt_lexer.proofs.Texts.{follows}
use Rattle.qtt_lexer.proofs.quoted.quoted.Given as goal

abbrev pub invariant-steps : goal.invariant-steps
invariant-steps l = record {
  within : length l.rest ≤ length l.characters;
  same : follows (string_bytes l.value) (length l.characters - length l.rest) (quoted l.rest) ≡ quoted l.characters;
}

abbrev pub decreases-steps : goal.decreases-steps
decreases-steps l = length l.rest
