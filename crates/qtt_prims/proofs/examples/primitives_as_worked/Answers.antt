use Rattle.std.specs.Prelude.{refl}
use Rattle.std.specs.Fmt.{digits}
use Rattle.qtt_prims.proofs.examples.primitives_as_worked.Goals as goal

pub returns : goal.returns
unfolding digits
returns c = record {
  greatest_and_one = refl;
  least_less_one = refl;
  greatest_doubled = refl;
  seven_by_two = refl;
  minus_seven_by_two = refl;
  least_by_minus_one = refl;
  seven_mod_two = refl;
  minus_seven_mod_two = refl;
  seven_mod_minus_two = refl;
  least_mod_minus_one = refl;
  one_by_zero = refl;
  one_mod_zero = refl;
  three_is_three = refl;
  two_is_not_three = refl;
  least_below_greatest = refl;
  joined = refl;
  same_texts = refl;
  shown_number = refl;
  shown_negative = refl;
  shown_zero = refl;
  shown_least = refl;
  text_is_no_number = refl;
  no_literals = refl;
  one_too_many = refl;
}
