-- The worked examples, computed.
use Rattle.std.proofs.Common.{refl}
use Rattle.std.specs.Fmt.{digits}
use Rattle.qtt_load.specs.Loading.{loaded}
use Rattle.qtt_load.specs.Rows.{LoadingRows, RefusalRows}

pub loading_rows_hold : LoadingRows
unfolding loaded
loading_rows_hold = record {
  breadth_first = refl;
  from_c = refl;
  ring_ends = refl;
  not_there = refl;
  fits = refl;
  one_too_many = refl;
  none_left = refl;
  standard_limit = refl;
}

pub refusal_rows_hold : RefusalRows
unfolding digits
refusal_rows_hold = record {
  another_name = refl;
  no_prim = refl;
  ring = refl;
  ring_line = refl;
  limit_line = refl;
  name_line = refl;
}
