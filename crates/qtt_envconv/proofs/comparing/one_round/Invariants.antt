use Rattle.std.proofs.Common.{◌≡◌}
use Rattle.qtt_term.specs.Globals.{env}
use Rattle.qtt_term.specs.Question.{weight_of, within_count}
use Rattle.qtt_envconv.specs.Stacks.{pairs, PairsReady}
use Rattle.qtt_envconv.proofs.comparing.one_round.Given as goal

abbrev pub invariant-loop-pair : goal.invariant-loop-pair
invariant-loop-pair l = record {
  answer : within_count (env l.env) l.n (pairs l.stack.items) ≡ within_count (env l.env) l.n
      (pairs l.initial.stack.items);
  ready : PairsReady (env l.env) l.stack.items;
}

abbrev pub decreases-loop-pair : goal.decreases-loop-pair
decreases-loop-pair l = weight_of (pairs l.stack.items)
