use Rattle.std.proofs.Common.{refl}
use Rattle.qtt_lexer.specs.Lexed.{tokens_from}
use Rattle.qtt_lexer.proofs.tokens.read_end.Goals as goal

pub returns-then-broken : goal.returns-then-broken
unfolding tokens_from
returns-then-broken c = rw c.if-broken.true c.refused.ensures

pub returns : goal.returns
unfolding tokens_from
returns c = rw (c.if-broken.false, c.in_ok-push.ensures.items, c.in_ok-token.ensures) refl
