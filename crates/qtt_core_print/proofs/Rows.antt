-- The worked examples, computed.
use Rattle.std.proofs.Common.{refl}
use Rattle.std.specs.Fmt.{digits}
use Rattle.qtt_core_print.specs.Names.{family_name, definition_name, constructor_name}
use Rattle.qtt_core_print.specs.Printing.{binding, match_head, motive_text}
use Rattle.qtt_core_print.specs.Rows.{PrintedRows}

pub printed_rows_hold : PrintedRows
unfolding digits family_name definition_name constructor_name binding match_head motive_text
printed_rows_hold = record {
  id_line = refl;
  main_line = refl;
  signature_line = refl;
  zero_line = refl;
  plus_line = refl;
  levels = refl;
  no_binder = refl;
  no_branch = refl;
  delete_text = refl;
  trap_text = refl;
  marked = refl;
  parameters = refl;
  parameter_alone = refl;
  proof = refl;
  pure_text = refl;
  bind_text = refl;
  input = refl;
  least = refl;
  escapes = refl;
  no_family = refl;
  no_definition = refl;
}
