-- The worked examples, computed.
use Rattle.std.proofs.Common.{refl}
use Rattle.std.specs.Fmt.{digits}
use Rattle.qtt_lower.specs.Rows.{LoweringRows}

pub lowering_rows_hold : LoweringRows
unfolding digits
lowering_rows_hold = record {
  identity_listed = refl;
  vectors_lowered = refl;
  box_listed = refl;
}
