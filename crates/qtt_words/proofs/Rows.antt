-- The worked examples, computed.
use Rattle.std.proofs.Common.{refl}
use Rattle.std.specs.Prelude.{⊤}
use Rattle.std.specs.Char.{encode_utf8}
use Rattle.std.specs.Str.{chars, is_utf8}
use Rattle.std.specs.Str.Lossy.{utf8_valid_len}
use Rattle.ucd_table.specs.Rows.{in_ranges}
use Rattle.ucd_derived.specs.XidStartRanges.{xid_start_ranges}
use Rattle.ucd_derived.specs.XidContinueRanges.{xid_continue_ranges}
use Rattle.unicode_ident.specs.Ident.{is_xid_start, is_xid_continue}
use Rattle.clap.proofs.OnLiterals.{clap_on_literals}
use Rattle.qtt_lexer.specs.Lexed.{tokens_from, lexed}
use Rattle.qtt_lexer.specs.Piece.{name_tail, reserved, name_at, hole_at, number_at, quoted, comment_tail, symbol_at, piece_at}
use Rattle.qtt_words.specs.Asked.{module_name}
use Rattle.qtt_words.specs.Rows.{WordRows, NameRows, ClapRows}

pub word_rows_hold : WordRows
word_rows_hold = record {
  nothing = refl;
  run_alone = refl;
  fly = refl;
  too_many = refl;
  jobs_65 = refl;
  check = refl;
  steps = refl;
  anywhere = refl;
  twice = refl;
  shortened = refl;
  no_value = refl;
  empty_value = refl;
  zero = refl;
  signed = refl;
  eleven_digits = refl;
  too_many_steps = refl;
  ended = refl;
  option_behind_end = refl;
  help = refl;
  no_name = refl;
  gen_7 = refl;
  gen_200 = refl;
  gen_0 = refl;
  gen_201 = refl;
  gen_007 = refl;
  gen_0007 = refl;
}

pub clap_rows_hold : ClapRows
unfolding clap_on_literals
clap_rows_hold = record {
  exact = refl;
  takes_these = refl;
  lines = refl;
  refuses_these = refl;
  no_lines = refl;
  without_fault = refl;
  with_fault = refl;
  same = refl;
}

-- what computes the tokens of words that are written out
names_on_literals : ⊤
unfolding is_xid_start is_xid_continue in_ranges xid_start_ranges xid_continue_ranges
names_on_literals = tt

pieces_on_literals : ⊤
unfolding piece_at name_at name_tail reserved hole_at number_at quoted comment_tail symbol_at
pieces_on_literals = tt

lexed_on_literals : ⊤
unfolding lexed tokens_from utf8_valid_len chars is_utf8 encode_utf8 pieces_on_literals names_on_literals
lexed_on_literals = tt

pub name_rows_hold : NameRows
unfolding module_name lexed_on_literals
name_rows_hold = record {
  of_one_part = refl;
  of_two_parts = refl;
  dot_at_end = refl;
  blank_behind = refl;
  wildcard = refl;
  keyword = refl;
  begins_with_digit = refl;
  empty = refl;
}
