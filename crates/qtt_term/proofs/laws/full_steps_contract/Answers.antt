use Rattle.qtt_term.proofs.Facts.{full_steps_contract_holds as the_law}
use Rattle.qtt_term.proofs.laws.full_steps_contract.Goals as goal

pub returns : goal.returns
returns c = the_law
