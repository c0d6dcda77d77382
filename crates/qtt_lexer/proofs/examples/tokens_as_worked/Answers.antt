use Rattle.std.specs.Prelude.{refl}
use lib.Utf8.{encode}
use Rattle.qtt_lexer.specs.Piece.{number_at, quoted, comment_tail, symbol_at, reserved}
use Rattle.qtt_lexer.proofs.examples.tokens_as_worked.Goals as goal

pub returns : goal.returns
unfolding comment_tail encode number_at quoted reserved symbol_at
returns c = record {
  zeros = refl;
  least = refl;
  below_least = refl;
  greatest = refl;
  above_greatest = refl;
  dashes = refl;
  escape_that_is_none = refl;
  cut_by_the_line = refl;
  nested = refl;
  no_dash_left = refl;
  arrow = refl;
  equals = refl;
  keyword = refl;
  no_keyword = refl;
}
