use Rattle.std.proofs.Common.{◌≡◌, ◌++◌, vec_len}
use Rattle.qtt_term.specs.Signature.{Env}
use Rattle.qtt_term.specs.Question.{beside}
use Rattle.qtt_term.specs.View.{side_by_side}
use Rattle.qtt_envconv.specs.Nodes.{nodes, AreReady}
use Rattle.qtt_envconv.specs.Stacks.{path, pairs, PairsReady}
use Rattle.qtt_envconv.proofs.comparing.push_pairs.Given as goal

abbrev pub invariant-loop-left : goal.invariant-loop-left
invariant-loop-left l = record {
  as_many : vec_len l.lefts ≡ vec_len l.rights;
  pushed : beside (path l.route) 0 (side_by_side (nodes l.lefts.items)) (side_by_side (nodes l.rights.items)) ++ pairs
      l.stack.items
      ≡ beside (path l.route) 0 (side_by_side (nodes l.initial.lefts.items))
      (side_by_side (nodes l.initial.rights.items))
      ++ pairs l.initial.stack.items;
  ready : (E : Env) → PairsReady E l.initial.stack.items → AreReady E l.initial.lefts.items →
      AreReady E l.initial.rights.items →
      PairsReady E l.stack.items × AreReady E l.lefts.items × AreReady E l.rights.items;
}

abbrev pub decreases-loop-left : goal.decreases-loop-left
decreases-loop-left l = vec_len l.lefts
