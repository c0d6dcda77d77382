-- The worked examples of strict positivity, computed.
use Rattle.std.proofs.Common.{refl}
use Rattle.qtt_positive.specs.Rows.{FirstBadRows}

pub rows_hold : FirstBadRows
rows_hold = record {
  numbers = refl;
  vectors = refl;
  in_a_domain = refl;
  too_large = refl;
  in_a_domain_of_a_domain = refl;
  behind_arrows = refl;
  in_a_later_domain = refl;
  in_another_family = refl;
  at_its_arguments = refl;
  in_its_arguments = refl;
  by_a_constructor = refl;
  by_a_case = refl;
  another_family = refl;
  first_of_several = refl;
}
