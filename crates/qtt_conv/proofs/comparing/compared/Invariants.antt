use Rattle.std.proofs.Common.{◌≡◌}
use Rattle.qtt_term.specs.Globals.{env}
use Rattle.qtt_term.specs.Question.{compare, within_count}
use Rattle.qtt_term.specs.View.{term}
use Rattle.qtt_conv.specs.Stacks.{pairs}
use Rattle.qtt_conv.proofs.comparing.compared.Given as goal

abbrev pub invariant-loop-answer : goal.invariant-loop-answer
invariant-loop-answer l =
    within_count (env l.env) l.left (pairs l.stack.items) ≡ compare (env l.env) l.n (term l.t) (term l.u)

abbrev pub decreases-loop-answer : goal.decreases-loop-answer
decreases-loop-answer l = l.left
