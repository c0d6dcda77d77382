use Rattle.std.specs.Prelude.{refl}
use Rattle.std.specs.Str.{chars}
use Rattle.std.specs.Char.{encode_utf8}
use Rattle.qtt_edge.proofs.examples.outside_as_worked.Goals as goal

pub returns : goal.returns
unfolding chars encode_utf8
returns c = record {
  path_of_qualified = refl;
  adds_behind = refl;
  gives_front = refl;
  tape_of_two_lines = refl;
  second_call_fails = (refl, refl, refl);
}
