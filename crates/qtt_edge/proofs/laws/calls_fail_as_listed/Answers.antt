use Rattle.qtt_edge.proofs.Plans.{calls-fail-as-listed}
use Rattle.qtt_edge.proofs.laws.calls_fail_as_listed.Goals as goal

pub returns : goal.returns
returns c = calls-fail-as-listed
