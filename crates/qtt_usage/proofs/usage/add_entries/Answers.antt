use Rattle.std.proofs.Common.{arith}
use Rattle.qtt_usage.specs.declared.mult.Mult.TheVariants.{Zero}
use Rattle.qtt_usage.specs.Mult.{◌⊕◌}
use Rattle.qtt_usage.proofs.Entries.{set_one_more, all_combined}
use Rattle.qtt_usage.proofs.usage.add_entries.Goals as goal

pub loop-i-preserved : goal.loop-i-preserved
loop-i-preserved c =
    rw c.add.ensures (set_one_more (λ u w. u ⊕ w) _ _ _ _ Zero Zero c.loop-i.invariant c.loop-i-test.true c.requires)

pub returns : goal.returns
returns c = all_combined (λ u w. u ⊕ w) c.loop-i.i c.args.entries.now _ _ c.loop-i.invariant (omega arith) c.requires
