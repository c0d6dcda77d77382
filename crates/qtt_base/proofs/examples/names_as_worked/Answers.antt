use Rattle.std.specs.Prelude.{refl}
use Rattle.qtt_base.proofs.examples.names_as_worked.Goals as goal

pub returns : goal.returns
returns c = record {
  parts_of_qualified = refl;
  part_at_limit = refl;
  part_above_limit = refl;
  limit_of_text = refl;
  limit_of_filled = refl;
  words_of_type_number = refl;
}
