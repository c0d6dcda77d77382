use Rattle.std.proofs.Common.{◌∙◌, ap, sym, List, ℕ, ◌++◌, encode_utf8}
use Rattle.qtt_lexer.proofs.Words.{spelled_more}
use Rattle.qtt_lexer.proofs.word.spelled.Goals as goal

pub loop-character-preserved : goal.loop-character-preserved
loop-character-preserved c =
    c.in_ok-push.ensures.bytes
    ∙ ap (λ (bs : List ℕ). bs ++ encode_utf8 c.character-item.result) c.loop-character.invariant
    ∙ sym (spelled_more c.args.characters.now c.loop-character.character-index c.character-item.result
    c.loop-character-test.true c.character-item.is)
