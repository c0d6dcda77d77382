-- The worked examples, computed.
use Rattle.std.proofs.Common.{◌≡◌, ℕ, zero, suc, [], ◌∷◌, refl}
use Rattle.std.specs.Fmt.{digits}
use Rattle.std.specs.Str.{is_utf8, chars}
use lib.Utf8.{encode}
use Rattle.qtt_term.specs.Contraction.{contract}
use Rattle.qtt_term.specs.Term.{var}
use Rattle.qtt_term.specs.Question.{Answer, compare, same_form}
use Rattle.qtt_term.specs.Programs.{naturals}
use Rattle.qtt_term.specs.Ask.{◌>>=◌, on_head, on_answer, within}
use Rattle.qtt_term.specs.Infer.{agree, sort_of, function_of, family_of, unbound}
use Rattle.qtt_term.specs.Premises.{need}
use Rattle.qtt_term.specs.Rows.{RunRows, QuestionRows, JudgementRows, sum_with_zero, equals_sum}

pub run_rows_hold : RunRows
unfolding contract digits is_utf8 chars encode
run_rows_hold = record {
  hello_ends = refl;
  hello_in_two = refl;
  hello_in_one = refl;
  identity_ends = refl;
  loops_in_five = refl;
  loops_in_four = refl;
  forever_in_ten = refl;
  zero_first = refl;
  zero_in_one = refl;
  no_clause_first = refl;
  handles_end = refl;
  handles_in_thirteen = refl;
  trapping_in_five = refl;
  trapping_in_four = refl;
  echo_of_a = refl;
  echo_ends = refl;
  echo_of_nothing = refl;
  echo_of_no_text = refl;
  least_by_minus_one = refl;
  greatest_and_one = refl;
  pred_of_zero = refl;
  closed_once = refl;
  boxed_ends = refl;
  deletes_ends = refl;
}

plus_of_zero-from : (more : ℕ) →
    compare naturals (suc (suc (suc more))) (equals_sum sum_with_zero) (equals_sum (var 0)) ≡ Answer.different (2 ∷ [])
unfolding contract same_form
plus_of_zero-from zero = refl
plus_of_zero-from (suc more) = refl

pub question_rows_hold : QuestionRows
unfolding contract same_form
question_rows_hold = record {
  sum_at_none = refl;
  sum_at_one = refl;
  division_at_none = refl;
  misapplied_is_a_head = refl;
  case_in_two = refl;
  case_in_one = refl;
  delete_in_one = refl;
  delete_in_none = refl;
  plus_at_four = refl;
  plus_at_three = refl;
  plus_of_zero = plus_of_zero-from;
  plus_of_zero_at_two = refl;
  aliases_at_eleven = refl;
  aliases_at_ten = refl;
  circles_at_ten = refl;
  texts_are_no_numbers = refl;
  types_are_no_arguments = refl;
}

pub judgement_rows_hold : JudgementRows
unfolding contract same_form ◌>>=◌ on_head on_answer within need agree sort_of function_of family_of unbound
judgement_rows_hold = record {
  identity_typed = refl;
  dropped = refl;
  dropped_erased = refl;
  erased_used = refl;
  one_branch = refl;
  beside_a_trap = refl;
  dead_fields = refl;
  plus_typed = refl;
  pred_typed = refl;
  closed_by_many = refl;
  closed_by_one = refl;
  not_a_function = refl;
  wrong_argument = refl;
  pure_typed = refl;
  pure_without_type = refl;
  deletion_typed = refl;
  spent_question = refl;
}
