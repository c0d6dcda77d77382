use Rattle.qtt_lexer.proofs.Lexing.{reads_gap, reads_token, reads_wrong}
use Rattle.qtt_lexer.proofs.tokens.read_piece.Goals as goal

pub returns-in-Gap-clause-ok : goal.returns-in-Gap-clause-ok
returns-in-Gap-clause-ok c =
    reads_gap c.args.broken c.args.place c.args.characters.now c.in_ok-len.field-0 c.in_ok-len.ensures.value
    c.requires.some (c.in_ok-len.ensures.fits c.requires.some) c.in-Gap.len c.args.tokens.now.items
    c.in-Gap.is

pub returns-in_ok-push-in-Token-clause-ok : goal.returns-in_ok-push-in-Token-clause-ok
returns-in_ok-push-in-Token-clause-ok c =
    reads_token c.args.broken c.args.place c.args.characters.now c.in_ok-len.field-0 c.in_ok-len.ensures.value
    c.requires.some (c.in_ok-len.ensures.fits c.requires.some) c.in-Token.kind c.in-Token.len
    c.in_ok-token-in-Token.field-0 c.args.tokens.now.items c.push.new.self.items c.in-Token.is
    c.in_ok-token-in-Token.ensures c.in_ok-push-in-Token.ensures.items

pub returns-in-Wrong-clause-err : goal.returns-in-Wrong-clause-err
returns-in-Wrong-clause-err c =
    reads_wrong c.args.broken c.args.place c.args.characters.now c.in_ok-len.field-0 c.in_ok-len.ensures.value
    c.requires.some (c.in_ok-len.ensures.fits c.requires.some) c.in-Wrong.cause c.in-Wrong.before
    c.in-Wrong.len c.refused.result c.after.result c.in-Wrong.is c.after.ensures.place c.refused.ensures
