use Rattle.qtt_module.proofs.ExportRows.{export_rows_hold}
use Rattle.qtt_module.proofs.examples.exports_as_worked.Goals as goal

pub returns : goal.returns
returns c = export_rows_hold
