-- The worked examples, computed.
use Rattle.std.proofs.Common.{refl}
use Rattle.qtt_closure.specs.Rows.{ConversionRows}

pub conversion_rows_hold : ConversionRows
conversion_rows_hold = record {
  identity_converted = refl;
  plus_converted = refl;
  append_converted = refl;
}
