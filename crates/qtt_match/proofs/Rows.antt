-- The worked examples of first matches, computed.
use Rattle.std.proofs.Common.{refl}
use Rattle.qtt_match.specs.Rows.{MatchRows}

pub rows_hold : MatchRows
rows_hold = record {
  first_of_three = refl;
  first_alone = refl;
  second_of_three = refl;
  third_of_three = refl;
  small_first = refl;
  big_first = refl;
  small_last = refl;
  two = refl;
  one = refl;
  none_fits = refl;
  no_clause = refl;
  dot_passed = refl;
  dot_not_compared = refl;
  wildcard = refl;
  other_family = refl;
  other_place = refl;
  too_few_patterns = refl;
  too_many_patterns = refl;
  unknown_name = refl;
  local_name = refl;
  family_name = refl;
  no_constructor = refl;
  part_of_suc = refl;
}
