use Rattle.qtt_outcome.proofs.Headline.{runs_are_evaluations_holds}
use Rattle.qtt_outcome.proofs.laws.runs_are_evaluations.Goals as goal

pub returns : goal.returns
returns c = runs_are_evaluations_holds c.build_laws.ensures
