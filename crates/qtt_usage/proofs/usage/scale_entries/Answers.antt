use Rattle.std.proofs.Common.{refl, ◌∙◌, arith}
use Rattle.qtt_usage.specs.declared.mult.Mult.TheVariants.{Zero}
use Rattle.qtt_usage.specs.Mult.{◌⊙◌}
use Rattle.qtt_usage.proofs.Entries.{set_one_more, all_combined, map-zip_self}
use Rattle.qtt_usage.proofs.usage.scale_entries.Goals as goal

pub loop-entry-preserved : goal.loop-entry-preserved
loop-entry-preserved c =
    rw c.mul.ensures (set_one_more (λ u w. c.args.by ⊙ u) _ _ _ _ Zero Zero c.loop-entry.invariant
    c.loop-entry-test.true refl)

pub returns : goal.returns
returns c =
    let paired = all_combined (λ u w. c.args.by ⊙ u) c.loop-entry.entry-index c.args.entries.now _ _
    c.loop-entry.invariant (omega arith) refl in
    paired ∙ map-zip_self (λ u. c.args.by ⊙ u) _
