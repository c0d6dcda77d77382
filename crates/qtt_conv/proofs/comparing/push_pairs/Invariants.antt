use Rattle.std.proofs.Common.{◌≡◌, ◌++◌, vec_len}
use Rattle.qtt_term.specs.Question.{beside}
use Rattle.qtt_term.specs.View.{terms, side_by_side}
use Rattle.qtt_conv.specs.Stacks.{pairs}
use Rattle.qtt_conv.proofs.comparing.push_pairs.Given as goal

abbrev pub invariant-loop-left : goal.invariant-loop-left
invariant-loop-left l = record {
  as_many : vec_len l.lefts ≡ vec_len l.rights;
  pushed : beside l.path 0 (side_by_side (terms l.lefts.items)) (side_by_side (terms l.rights.items)) ++ pairs
      l.stack.items
      ≡ beside l.path 0 (side_by_side (terms l.initial.lefts.items)) (side_by_side (terms l.initial.rights.items))
      ++ pairs l.initial.stack.items;
}

abbrev pub decreases-loop-left : goal.decreases-loop-left
decreases-loop-left l = vec_len l.lefts
