-- The worked examples, computed.
use Rattle.std.proofs.Common.{refl}
use Rattle.qtt_erase.specs.Rows.{ErasureRows}

pub erasure_rows_hold : ErasureRows
erasure_rows_hold = record {
  identity_keeps = refl;
  identity_called = refl;
  plus_keeps = refl;
  append_keeps = refl;
  total_keeps = refl;
  loopy_waits = refl;
  box_keeps = refl;
  cast_matches = refl;
  delete_matches = refl;
  zero_definition = refl;
}
