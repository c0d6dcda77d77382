use Rattle.std.proofs.Common.{sym, ◌∙◌, ap}
use mathlib.Core.Path.{ap₂}
use Rattle.qtt_usage.specs.Usage.{no_usage}
use Rattle.qtt_term.specs.Infer.{inferred}
use Rattle.qtt_core_check.proofs.Views.{handle-seen}
use Rattle.qtt_core_check.proofs.Within.{on_done, reached}
use Rattle.qtt_core_check.proofs.premises.Checker.tape_row.Goals as goal

pub returns-clause-gives : goal.returns-clause-gives
returns-clause-gives g c =
    reached on_done (ap₂ inferred (sym handle-seen)
    (ap no_usage (sym c.in_ok-depth.ensures) ∙ sym c.in_ok-zero.ensures.uses))
