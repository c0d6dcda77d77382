use Rattle.std.proofs.Common.{sym, ◌∙◌, ap}
use Rattle.qtt_code.specs.Machine.{truth}
use Rattle.qtt_machine.proofs.Parting.{empty_con}
use Rattle.qtt_machine.proofs.compute.truth.Goals as goal

pub returns-then-holds : goal.returns-then-holds
returns-then-holds c = empty_con 1 c.no_parts-parts.result c.no_parts-parts.ensures ∙ ap truth (sym c.if-holds.true)

pub returns-else-holds : goal.returns-else-holds
returns-else-holds c = empty_con 0 c.no_parts-parts.result c.no_parts-parts.ensures ∙ ap truth (sym c.if-holds.false)
