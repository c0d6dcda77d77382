use Rattle.std.proofs.Common.{◌≡◌, ◌+◌, ◌-◌, ◌≤◌, length, option_map}
use Rattle.qtt_lexer.specs.Piece.{comment_tail}
use Rattle.qtt_lexer.proofs.comment.comment_tail.Given as goal

abbrev pub invariant-steps : goal.invariant-steps
invariant-steps l = record {
  within : length l.rest ≤ length l.characters;
  few : l.depth ≤ length l.characters - length l.rest;
  same : option_map (λ n. length l.characters - length l.rest + n) (comment_tail l.depth l.rest) ≡ comment_tail 0
      l.characters;
}

abbrev pub decreases-steps : goal.decreases-steps
decreases-steps l = length l.rest
