use Rattle.qtt_run.proofs.Used.{typed-clean, bodies-clean}
use Rattle.qtt_run.proofs.laws.typed_terms_have_no_erased_use.Goals as goal

pub returns-clause-terms : goal.returns-clause-terms
returns-clause-terms c = typed-clean

pub returns-clause-bodies : goal.returns-clause-bodies
returns-clause-bodies c = bodies-clean
