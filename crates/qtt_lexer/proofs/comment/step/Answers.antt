use Rattle.std.proofs.Common.{arith}
use Rattle.qtt_lexer.proofs.Slices.{first_and_rest}
use Rattle.qtt_lexer.proofs.Comments.{two_more, one_more, comment-opens, comment-closes, comment-skips, comment-empty, comment-lone}
use Rattle.qtt_lexer.proofs.comment.step.Goals as goal

pub returns-in_default : goal.returns-in_default
returns-in_default c = comment-empty c.args.characters.now (omega (arith, c.in_default.len_below))

pub returns-in_default-behind : goal.returns-in_default-behind
returns-in_default-behind c =
    let is = first_and_rest c.args.characters.now c.first-item.result c.in-len1-up.len_at_least c.first-item.is in
    comment-lone c.args.characters.now _ c.first-item.result is (omega (arith, c.in_default-behind.len_below))

pub returns-then-opens : goal.returns-then-opens
returns-then-opens c =
    let is = first_and_rest c.args.characters.now c.first-item.result c.in-len1-up.len_at_least c.first-item.is in
    let behind_is = first_and_rest _ c.second-item.result c.in-len1-up-behind.len_at_least c.second-item.is in
    (two_more _ _ _ _ _ is behind_is, comment-opens _ _ _ _ _ is behind_is c.if-opens.ensures)

pub returns-then-closes : goal.returns-then-closes
returns-then-closes c =
    let is = first_and_rest c.args.characters.now c.first-item.result c.in-len1-up.len_at_least c.first-item.is in
    let behind_is = first_and_rest _ c.second-item.result c.in-len1-up-behind.len_at_least c.second-item.is in
    (two_more _ _ _ _ _ is behind_is, comment-closes _ _ _ _ _ is behind_is c.if-opens.ensures c.if-closes.ensures)

pub returns : goal.returns
returns c =
    let is = first_and_rest c.args.characters.now c.first-item.result c.in-len1-up.len_at_least c.first-item.is in
    let behind_is = first_and_rest _ c.second-item.result c.in-len1-up-behind.len_at_least c.second-item.is in
    (one_more _ _ _ _ _ is behind_is, comment-skips _ _ _ _ _ is behind_is c.if-opens.ensures c.if-closes.ensures)
