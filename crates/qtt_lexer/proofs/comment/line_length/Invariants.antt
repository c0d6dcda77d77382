use Rattle.std.proofs.Common.{◌≡◌, ◌+◌, ◌==◌, not, drop}
use Rattle.std.specs.List.{prefix_len}
use Rattle.qtt_lexer.proofs.comment.line_length.Given as goal

abbrev pub invariant-loop-i : goal.invariant-loop-i
invariant-loop-i l = l.i + prefix_len (λ c. not (c == 10)) (drop l.i l.characters) ≡ prefix_len
    (λ c. not (c == 10)) l.characters
