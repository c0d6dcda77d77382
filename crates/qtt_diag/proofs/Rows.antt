-- The worked examples, computed.
use Rattle.std.proofs.Common.{refl}
use Rattle.std.specs.Fmt.{digits}
use Rattle.qtt_core_print.specs.Names.{family_name, definition_name, constructor_name}
use Rattle.qtt_core_print.specs.Printing.{binding, match_head, motive_text}
use Rattle.qtt_diag.specs.Rows.{MessageRows}

pub message_rows_hold : MessageRows
unfolding digits family_name definition_name constructor_name binding match_head motive_text
message_rows_hold = record {
  broken_byte = refl;
  sign = refl;
  picture = refl;
  no_quote = refl;
  no_comment_end = refl;
  wide = refl;
  long = refl;
  indent = refl;
  empty_text = refl;
  deep = refl;
  unbound_y = refl;
  unbound_qualified = refl;
  ambiguous_inc = refl;
  second_x = refl;
  not_positive = refl;
  needs_type = refl;
  not_a_function = refl;
  text_for_number = refl;
  sums = refl;
  quantity = refl;
  dropped = refl;
  closed_twice = refl;
  unnamed = refl;
  no_type = refl;
  too_large = refl;
  arity = refl;
  no_family = refl;
  erased = refl;
  compared = refl;
  head_asked = refl;
  stuck = refl;
  dot = refl;
  erased_match = refl;
  missing_zero = refl;
  missing_nested = refl;
  no_clauses = refl;
  wrong_main = refl;
  bytes = refl;
  clauses = refl;
  other_name = refl;
  ring = refl;
  unsolved = refl;
  no_action = refl;
  unreachable = refl;
  holes = refl;
  core_refused = refl;
}
