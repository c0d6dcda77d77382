-- The worked examples, computed.
use Rattle.std.proofs.Common.{◌≡◌, true, bytes_eq, refl}
use Rattle.std.specs.Fmt.{digits}
use Rattle.qtt_names.specs.Answer.{◌>>=◌ as ◌in_names◌}
use Rattle.qtt_names.specs.Target.{look_up, global}
use Rattle.qtt_names.specs.Resolved.{filled_item}
use Rattle.qtt_implicit.specs.Filling.{◌>>=◌}
use Rattle.qtt_implicit.specs.Filled.{walk_item}
use Rattle.qtt_implicit.specs.Rows.{reading, looked_up, text_of, forgotten_of, module_of, outlined, print_of, filled_program, VectorRows, FillingRows, LimitRows}
use Rattle.qtt_implicit.specs.Texts.{short_program, long_program}

printed_text : print_of (text_of (reading short_program)) ≡ filled_program
unfolding digits ◌in_names◌ look_up global filled_item ◌>>=◌ walk_item
printed_text = refl

same_text : bytes_eq (print_of (outlined (text_of (reading short_program))))
    (print_of (outlined (module_of (looked_up long_program)))) ≡ true
unfolding digits ◌in_names◌ look_up global filled_item ◌>>=◌ walk_item
same_text = refl

forgotten : forgotten_of (reading short_program) ≡ module_of (looked_up short_program)
unfolding digits ◌in_names◌ look_up global filled_item ◌>>=◌ walk_item
forgotten = refl

pub vector_rows_hold : VectorRows
vector_rows_hold = record { printed_text = printed_text; same_text = same_text; forgotten = forgotten }

pub filling_rows_hold : FillingRows
unfolding digits ◌in_names◌ look_up global filled_item ◌>>=◌ walk_item
filling_rows_hold = record {
  empty_unsolved = refl;
  empty_given = refl;
  two_braces = refl;
  braces_on_local = refl;
  of_number = refl;
  of_let = refl;
  of_function = refl;
  of_more_arguments = refl;
  of_bound = refl;
  of_untyped = refl;
  of_typed = refl;
  in_a_signature = refl;
  by_variable = refl;
  by_wildcard = refl;
  by_constructor = refl;
  by_dot = refl;
  imported = refl;
  imported_unsolved = refl;
  some_braces = refl;
}

pub limit_rows_hold : LimitRows
unfolding digits ◌in_names◌ look_up global filled_item ◌>>=◌ walk_item
limit_rows_hold = record {
  of_application = refl;
  of_arrow = refl;
  of_clause = refl;
  ten_fit = refl;
  nine_are_passed = refl;
  own_nodes = refl;
  of_patterns = refl;
}
