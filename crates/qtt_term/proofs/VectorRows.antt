-- The worked examples of vectors, computed.
use Rattle.std.proofs.Common.{refl}
use Rattle.std.specs.Fmt.{digits}
use Rattle.std.specs.Str.{is_utf8, chars}
use lib.Utf8.{encode}
use Rattle.qtt_term.specs.Contraction.{contract}
use Rattle.qtt_term.specs.Question.{same_form}
use Rattle.qtt_term.specs.Ask.{◌>>=◌, on_head, on_answer, within}
use Rattle.qtt_term.specs.Infer.{agree, sort_of, function_of, family_of, unbound}
use Rattle.qtt_term.specs.Premises.{need}
use Rattle.qtt_term.specs.VectorRows.{VectorRows}

pub vector_rows_hold : VectorRows
unfolding contract digits is_utf8 chars encode same_form ◌>>=◌ on_head on_answer within need agree sort_of function_of
    family_of unbound
vector_rows_hold = record {
  append_typed = refl;
  append_in_three = refl;
  total_typed = refl;
  main_typed = refl;
  run_ends = refl;
  head_typed = refl;
  head_in_one = refl;
  head_type_at_two = refl;
  head_type_at_one = refl;
}
