-- The worked examples, computed.
use Rattle.std.proofs.Common.{refl}
use Rattle.std.specs.Fmt.{digits}
use Rattle.qtt_gen.specs.Generated.{numbered}
use Rattle.qtt_gen.specs.Rows.{GeneratedRows}

pub generated_rows_hold : GeneratedRows
unfolding digits numbered
generated_rows_hold = record {
  of_6_and_0 = refl;
  of_1 = refl;
  values_of_7 = refl;
  values_of_1 = refl;
  first_step = refl;
  second_step = refl;
  wrapped = refl;
  negative_value = refl;
  modules_of_7 = refl;
}
