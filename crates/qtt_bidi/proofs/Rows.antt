-- The worked examples, computed.
use Rattle.std.proofs.Common.{refl}
use Rattle.qtt_term.specs.Contraction.{contract}
use Rattle.qtt_term.specs.Question.{same_form}
use Rattle.qtt_term.specs.Ask.{◌>>=◌, on_head, on_answer, within, asked_at}
use Rattle.qtt_term.specs.Premises.{need}
use Rattle.qtt_term.specs.Infer.{agree}
use Rattle.qtt_bidi.specs.Premises.{fit}
use Rattle.qtt_bidi.specs.Rows.{WorkedRows}
use Rattle.qtt_bidi.specs.Refused.{RefusedRows, ChoiceRows}

pub worked_rows_hold : WorkedRows
unfolding contract same_form ◌>>=◌ on_head on_answer within need fit
worked_rows_hold = record {
  id_accepted = refl;
  id_in_main = refl;
  bad_refused = refl;
  pick_refused = refl;
  erased_used = refl;
  erased_in_type = refl;
  same_in_four = refl;
  same_in_three = refl;
  zero_refused = refl;
  circles_in_ten = refl;
  aliases_in_eleven = refl;
  aliases_in_ten = refl;
  handles_accepted = refl;
  never_closed_refused = refl;
  closed_twice_refused = refl;
  closed_in_many_refused = refl;
  closed_in_one_accepted = refl;
  text_is_no_number = refl;
}

pub refused_rows_hold : RefusedRows
unfolding contract same_form ◌>>=◌ on_head on_answer within need fit asked_at agree
refused_rows_hold = record {
  function_without_type = refl;
  constructor_with_parameters = refl;
  pure_synthesised = refl;
  bind_synthesised = refl;
  no_function_expected = refl;
  no_function_applied = refl;
  domain_differs = refl;
  result_differs = refl;
  found_differs = refl;
  mark_differs = refl;
  unused_in_function = refl;
  unused_in_checked = refl;
  unused_in_let = refl;
  unused_in_do = refl;
  domain_no_type = refl;
  codomain_no_type = refl;
  binder_no_type = refl;
  written_no_type = refl;
  let_no_type = refl;
  the_no_type = refl;
  family_arguments = refl;
  type_arguments = refl;
  fields_synthesised = refl;
  fields_checked = refl;
  primitive_arguments = refl;
  action_arguments = refl;
  pure_arguments = refl;
  other_family = refl;
  erased_definition = refl;
  erased_inside = refl;
  erased_field = refl;
  pure_of_no_action = refl;
  pure_of_io1 = refl;
  block_of_no_action = refl;
  no_action_bound = refl;
  function_spent = refl;
  applied_spent = refl;
  domain_spent = refl;
  family_spent = refl;
  pure_spent = refl;
  block_spent = refl;
  action_spent = refl;
  term_spent = refl;
}

pub choice_rows_hold : ChoiceRows
unfolding contract same_form ◌>>=◌ on_head on_answer within need fit
choice_rows_hold = record {
  later_binder = refl;
  types_first = refl;
  domain_kept = refl;
  rest_as_given = refl;
  pure_bound = refl;
  erased_let = refl;
  erased_part = refl;
}
