use Rattle.std.proofs.Common.{◌≡◌, ◌≤◌, drop}
use Rattle.qtt_layout.specs.Rules.{start, put_from, counted_of}
use Rattle.qtt_layout.specs.Between.{state_of}
use Rattle.qtt_layout.specs.Answer.{written_of}
use Rattle.qtt_layout.proofs.layout.marks_of.Given as goal

abbrev pub invariant-loop-token : goal.invariant-loop-token
invariant-loop-token l = record {
  brackets : l.between.brackets ≤ l.token-index;
  same : written_of l.marks (put_from (state_of l.between) (drop l.token-index l.tokens)) ≡ counted_of
      (put_from start l.tokens);
}
