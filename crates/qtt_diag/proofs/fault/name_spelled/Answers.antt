use Rattle.std.proofs.Common.{Some, refl, sym, ap, ◌∙◌}
use Rattle.qtt_base.specs.Parts.{has_long_part}
use Rattle.qtt_diag.proofs.Spelled.{no_text, is_name}
use Rattle.qtt_diag.proofs.fault.name_spelled.Goals as goal

pub returns-in_default : goal.returns-in_default
returns-in_default c = rw (no_text c.args.word.now c.in_default.ensures.cases.0) refl

pub returns-in-Ok-new : goal.returns-in-Ok-new
returns-in-Ok-new c =
    let same = c.in-Ok.ensures.cases.0 in
    ap Some (c.in-Ok-new.ensures.ok ∙ same) ∙
    sym (is_name c.args.word.now c.in-Ok.ensures.cases.1 (ap has_long_part (sym same) ∙ c.in-Ok-new.ensures.short))
