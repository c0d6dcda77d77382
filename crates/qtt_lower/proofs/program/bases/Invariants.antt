use Rattle.std.proofs.Common.{◌≡◌, ◌+◌, ◌++◌, ◌≤◌, drop}
use Rattle.qtt_base.specs.Limits.{standard}
use Rattle.qtt_lower.specs.Compiled.{firsts_from, total_blocks}
use Rattle.qtt_lower.proofs.program.bases.Given as goal

abbrev pub invariant-loop-id : goal.invariant-loop-id
invariant-loop-id l = record {
  firsts : l.firsts.items ++ firsts_from l.next (drop l.id-index l.sizes) ≡ firsts_from 0 l.sizes;
  few : l.next + total_blocks (drop l.id-index l.sizes) ≤ standard.blocks;
}
