use Rattle.qtt_term.specs.Ask.{Ending}
use Rattle.qtt_bidi.proofs.Derived.{derived}
use Rattle.qtt_bidi.proofs.Meant.{ending}
use Rattle.qtt_bidi.proofs.laws.budgets_answer_so.Goals as goal

pub returns : goal.returns
returns c = record {
  derived = λ G n p S m e j h. derived e G p S m j (ending G n p S m e (Ending.ok j) h);
  failed = λ G n p S m e r h. ending G n p S m e (Ending.fails r) h;
  spent = λ G n p S m e w q h. ending G n p S m e (Ending.spent w q) h;
}
