-- The worked examples of what a module gives, computed.
use Rattle.std.proofs.Common.{refl}
use Rattle.qtt_module.specs.ExportRows.{ExportRows}

pub export_rows_hold : ExportRows
export_rows_hold = record { nothing = refl; in_text_order = refl; first_of_two = refl; with_signatures = refl }
