use Rattle.qtt_lexer_laws.proofs.LongNames.{long_name, long_hole}
use Rattle.qtt_lexer_laws.proofs.Worked.{tokens, not_utf8, not_utf8_in_a_text, not_utf8_in_a_comment, bad_character, bad_question, qualified_hole, bad_escape, line_ends, input_ends, open_comment, too_great, too_small}
use Rattle.qtt_lexer_laws.proofs.laws.faults_as_worked.Goals as goal

pub returns : goal.returns
returns c = record {
  tokens = tokens;
  not_utf8 = not_utf8;
  not_utf8_in_a_text = not_utf8_in_a_text;
  not_utf8_in_a_comment = not_utf8_in_a_comment;
  bad_character = bad_character;
  bad_question = bad_question;
  qualified_hole = qualified_hole;
  bad_escape = bad_escape;
  line_ends = line_ends;
  input_ends = input_ends;
  open_comment = open_comment;
  too_great = too_great;
  too_small = too_small;
  long_name = long_name;
  long_hole = long_hole;
}
