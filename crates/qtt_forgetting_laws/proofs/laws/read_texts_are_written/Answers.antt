use Rattle.qtt_grammar.specs.declared.class.Pass.TheVariants.{Counts}
use Rattle.qtt_grammar.specs.Lexeme.{lexemes}
use Rattle.qtt_forgetting_laws.proofs.Items.{written_text}
use Rattle.qtt_forgetting_laws.proofs.Targets.{written_with_targets}
use Rattle.qtt_forgetting_laws.proofs.laws.read_texts_are_written.Goals as goal

pub returns : goal.returns
returns c = record {
  read = λ ms t e. written_text Counts (lexemes ms) t ((c.parsed_is_the_grammar.ensures.tree ms t).0 e).text;
  with_targets = written_with_targets;
}
