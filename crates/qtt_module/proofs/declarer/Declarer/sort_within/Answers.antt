use Rattle.std.proofs.Common.{sym, ◌∙◌}
use Rattle.qtt_bidi.proofs.Looked.{told}
use Rattle.qtt_bidi.proofs.Within.{on, here, passed, holds, unmet, fails_later}
use Rattle.qtt_module.proofs.declarer.Declarer.sort_within.Goals as goal

pub returns-in_err-level : goal.returns-in_err-level
returns-in_err-level g c =
    passed _ _ _ _ c.from_residual.result c.in_err-level.field-0.0 c.from_residual.ensures.1
    (here _ _ _ _ _ c.in_err-level.ensures)

pub returns-then-is_within : goal.returns-then-is_within
returns-then-is_within g c =
    on _ c.in_ok-level.ensures (holds _ _ _ (sym c.is_within.ensures ∙ c.if-is_within.true))

pub returns : goal.returns
returns g c =
    told _ _ _ _ _ c.core_refused.result
    (fails_later _ c.in_ok-level.ensures (unmet _ _ _ (sym c.is_within.ensures ∙ c.if-is_within.false)))
    c.core_refused.ensures
