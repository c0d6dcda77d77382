-- The worked examples, computed.
use Rattle.std.proofs.Common.{refl}
use Rattle.std.specs.Fmt.{digits}
use Rattle.qtt_term.specs.Contraction.{contract}
use Rattle.qtt_term.specs.Question.{same_form}
use Rattle.qtt_term.specs.Ask.{◌>>=◌, on_head, on_answer, within}
use Rattle.qtt_term.specs.Premises.{need}
use Rattle.qtt_core_print.specs.Names.{family_name, definition_name, constructor_name}
use Rattle.qtt_holes.specs.Rows.{HoleRows}
use Rattle.qtt_holes.specs.HoleText.{hole_text}
use Rattle.qtt_holes.specs.HoleTextRows.{HoleTextRows}

pub hole_rows_hold : HoleRows
unfolding contract same_form ◌>>=◌ on_head on_answer within need
hole_rows_hold = record {
  in_do = refl;
  is_open = refl;
  at_leaf = refl;
  used_too_often = refl;
  in_let = refl;
  in_many_let = refl;
  in_erased_let = refl;
  many_stay = refl;
  erased_is_none = refl;
  nothing_left = refl;
  under_lambda = refl;
  no_name = refl;
  for_a_term = refl;
  put_in = refl;
  other_mark = refl;
  other_domain = refl;
  no_function = refl;
  no_action = refl;
  for_ever = refl;
}

pub hole_text_rows_hold : HoleTextRows
unfolding hole_text family_name definition_name constructor_name digits
hole_text_rows_hold = record { in_do = refl; at_leaf = refl; nothing_in_sight = refl; for_a_term = refl }
