-- No place is changed.
use Rattle.std.proofs.Common.{◌∙◌}
use Rattle.qtt_implicit.specs.Slots.{shared_tree}
use Rattle.qtt_implicit.proofs.Copied.{not_placed}
use Rattle.qtt_implicit.proofs.Standing.{if_ok}
use Rattle.qtt_implicit.proofs.filling.slots.Shared.expression.Goals as goal

pub returns-else-is_plain : goal.returns-else-is_plain
returns-else-is_plain c =
    if_ok c.copy.result _ _ (λ t e. e ∙ not_placed 0 (shared_tree c.args.self)) c.copy.ensures
