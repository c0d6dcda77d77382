use Rattle.std.proofs.Common.{refl, ap, ◌∙◌}
use Rattle.std.specs.Prelude.{is_some}
use Rattle.qtt_load.proofs.Known.{true≢false}
use Rattle.qtt_load.proofs.stage.refused.Goals as goal

pub unreachable-requires : goal.unreachable-requires
unreachable-requires c =
    true≢false (ap is_some (rw c.in-Ok-None.field-0-is at c.in-Ok-None.ensures) ∙ c.requires) refl
