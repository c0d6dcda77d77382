use Rattle.std.proofs.Common.{◌≡◌, ◌+◌, drop}
use Rattle.qtt_base.specs.Limits.{standard}
use Rattle.qtt_lower.specs.Sizes.{capped}
use Rattle.qtt_lower.specs.Compiled.{total_blocks, total_instructions}
use Rattle.qtt_lower.proofs.program.within_limits.Given as goal

abbrev pub invariant-loop-size : goal.invariant-loop-size
invariant-loop-size l = record {
  blocks : capped standard.blocks (l.blocks + total_blocks (drop l.size-index l.sizes)) ≡ capped standard.blocks
      (total_blocks l.sizes);
  instrs : capped standard.instructions (l.instrs + total_instructions (drop l.size-index l.sizes)) ≡ capped
      standard.instructions (total_instructions l.sizes);
}
