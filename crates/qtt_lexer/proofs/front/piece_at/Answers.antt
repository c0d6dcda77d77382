use Rattle.std.proofs.Common.{arith}
use Rattle.qtt_lexer.proofs.Slices.{first_and_rest}
use Rattle.qtt_lexer.proofs.Pieces.{piece_at-empty, piece_at-front, fits_from}
use Rattle.qtt_lexer.proofs.front.piece_at.Goals as goal

pub returns-in_default-clause-value : goal.returns-in_default-clause-value
returns-in_default-clause-value c =
    piece_at-empty c.args.broken c.args.characters.now (omega (arith, c.in_default.len_below))

pub returns-clause-value : goal.returns-clause-value
returns-clause-value c =
    let is = first_and_rest c.args.characters.now c.first-item.result c.in-len1-up.len_at_least c.first-item.is in
    piece_at-front c.args.broken c.args.characters.now _ c.first-item.result _ c.by_front.result is
    c.front_of.ensures (c.by_front.ensures c.first-item.result is)

pub returns-clause-fits : goal.returns-clause-fits
returns-clause-fits c = fits_from c.args.broken c.args.characters.now c.by_front.result (returns-clause-value c)
