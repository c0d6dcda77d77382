use Rattle.qtt_run.proofs.Whole.{bodies-whole as the_law}
use Rattle.qtt_run.proofs.laws.typed_environments_have_whole_bodies.Goals as goal

pub returns : goal.returns
returns c = the_law
