use Rattle.qtt_forgetting_laws.proofs.Forgotten.{are_forgotten}
use Rattle.qtt_forgetting_laws.proofs.laws.read_texts_are_forgotten.Goals as goal

pub returns : goal.returns
returns c = are_forgotten c.read_texts_are_written.ensures c.signatures_have_their_binders.ensures
    c.filled_is_forgotten.ensures
