use Rattle.std.proofs.Common.{◌≡◌, ◌+◌, ◌-◌, ◌≤◌, length, take, nat_lt}
use Rattle.std.specs.List.{suffix_len}
use Rattle.qtt_layout.proofs.block.right_of.Given as goal

abbrev pub invariant-loop-kept : goal.invariant-loop-kept
invariant-loop-kept l = record {
  within : l.kept ≤ length l.blocks;
  same : length l.blocks - l.kept + suffix_len (λ block. nat_lt l.col block.col)
      (take l.kept l.blocks) ≡ suffix_len (λ block. nat_lt l.col block.col) l.blocks;
}

abbrev pub decreases-loop-kept : goal.decreases-loop-kept
decreases-loop-kept l = l.kept
