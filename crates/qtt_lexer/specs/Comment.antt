-- One step in a comment behind its opening.
use Rattle.std.specs.Prelude.{◌≡◌, ℕ, suc, ◌+◌, ◌-◌, List, length, None, option_map}
use Rattle.qtt_lexer.specs.Piece.{comment_tail, closing}
use Rattle.qtt_lexer.specs.declared.comment.CommentStep.{CommentStep}
use Rattle.qtt_lexer.specs.declared.comment.CommentStep.TheVariants.{Opens, Closes, Skips, Ends}

-- what the step says of a comment that goes on with these characters, at every depth
abbrev pub IsStep : List ℕ → CommentStep → Type 0
IsStep cs (Opens rest) =
    (length cs ≡ length rest.now + 2) ×
    ((depth : ℕ) → comment_tail depth cs ≡ option_map (λ n. n + 2) (comment_tail (suc depth) rest.now))
IsStep cs (Closes rest) =
    (length cs ≡ length rest.now + 2) ×
    ((depth : ℕ) → comment_tail depth cs ≡ closing depth (comment_tail (depth - 1) rest.now))
IsStep cs (Skips rest) =
    (length cs ≡ length rest.now + 1) ×
    ((depth : ℕ) → comment_tail depth cs ≡ option_map (λ n. n + 1) (comment_tail depth rest.now))
IsStep cs Ends = (depth : ℕ) → comment_tail depth cs ≡ None
