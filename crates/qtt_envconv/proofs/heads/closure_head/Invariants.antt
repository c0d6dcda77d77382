-- The head within what is left of the contractions.
use Rattle.std.proofs.Common.{◌≡◌, ◌-◌, ◌≤◌}
use Rattle.qtt_term.specs.Globals.{env}
use Rattle.qtt_term.specs.Question.{head, head_from}
use Rattle.qtt_envconv.specs.Closures.{closure}
use Rattle.qtt_envconv.specs.Spines.{whole, IsSettled}
use Rattle.qtt_envconv.proofs.heads.closure_head.Given as goal

abbrev pub invariant-loop-head : goal.invariant-loop-head
invariant-loop-head l = record {
  head : head_from (env l.env) (l.n - l.made) l.made (whole l.spine) ≡ head (env l.env) l.n (closure l.closure);
  settled : IsSettled l.spine;
  within : l.made ≤ l.n;
}

abbrev pub decreases-loop-head : goal.decreases-loop-head
decreases-loop-head l = l.n - l.made
