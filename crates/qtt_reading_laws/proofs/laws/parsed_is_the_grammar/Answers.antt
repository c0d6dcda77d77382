use Rattle.qtt_grammar.specs.Lexeme.{lexemes}
use Rattle.qtt_reading_laws.proofs.Outcomes.{tree_read, tree_told, first_read, first_told, one_answer}
use Rattle.qtt_reading_laws.proofs.laws.parsed_is_the_grammar.Goals as goal

pub returns : goal.returns
returns c = record {
  tree = λ ms t. (tree_read (lexemes ms) t, tree_told (lexemes ms) t);
  fault = λ ms m. (first_read (lexemes ms) m, first_told (lexemes ms) m);
  one = one_answer;
}
