use Rattle.std.proofs.Common.{◌+◌, ◌*◌}
use Rattle.qtt_grammar.proofs.expr.+expr.Given as goal

abbrev pub decreases-expr : goal.decreases-expr
decreases-expr l = 2 * l.level.left + 1

abbrev pub decreases-read : goal.decreases-read
decreases-read l = 2 * l.level.left
