use Rattle.qtt_preserve.proofs.Facts.{in_scope_holds, bodies_closed_holds}
use Rattle.qtt_preserve.proofs.laws.typed_terms_are_in_scope.Goals as goal

pub returns-clause-scope : goal.returns-clause-scope
returns-clause-scope c = in_scope_holds

pub returns-clause-bodies : goal.returns-clause-bodies
returns-clause-bodies c = bodies_closed_holds
