use Rattle.qtt_lexer.specs.Piece.{number_at}
use Rattle.qtt_lexer.proofs.Numbers.{number_of-capped, digits_pass}
use Rattle.qtt_lexer.proofs.number.number_at.Goals as goal

pub decimal-requires : goal.decimal-requires
decimal-requires c = digits_pass c.args.characters.now c.digits_length-len.result c.digits_length-len.ensures.value

pub returns : goal.returns
unfolding number_at
returns c = rw (c.number_of.ensures, c.decimal.ensures, c.digits_length-len.ensures.value)
    (number_of-capped c.args.negative _ _)
