use Rattle.qtt_confluence.proofs.Definitions.{lists-read_definitions}
use Rattle.qtt_bidi.specs.Elaboration.{judge}
use Rattle.qtt_bidi.proofs.Unread.{unread}
use Rattle.qtt_bidi.proofs.laws.elaboration_asks_for_no_reading.Goals as goal

pub returns : goal.returns
returns c = record {
  unread = λ G p S m e. unread e G p S m;
  alike_within = λ E D h n G p S m e.
      (lists-read_definitions _ _ _ E D h).within n (judge G p S m e) (unread e G p S m);
  alike = λ E D h G p S m e r. (lists-read_definitions _ _ _ E D h).ends (judge G p S m e) r (unread e G p S m);
}
