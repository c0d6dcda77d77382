use Rattle.std.proofs.Common.{◌≡◌}
use Rattle.qtt_term.specs.Globals.{env}
use Rattle.qtt_term.specs.Question.{compare, within_count}
use Rattle.qtt_envconv.specs.Nodes.{node}
use Rattle.qtt_envconv.specs.Stacks.{pairs, PairsReady}
use Rattle.qtt_envconv.proofs.comparing.compared.Given as goal

abbrev pub invariant-loop-answer : goal.invariant-loop-answer
invariant-loop-answer l = record {
  answer : within_count (env l.env) l.left (pairs l.stack.items) ≡ compare (env l.env) l.n (node l.fn.left)
      (node l.fn.right);
  ready : PairsReady (env l.env) l.stack.items;
}

abbrev pub decreases-loop-answer : goal.decreases-loop-answer
decreases-loop-answer l = l.left
