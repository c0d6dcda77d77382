use Rattle.qtt_edge.proofs.Plans.{puts-fail-as-listed}
use Rattle.qtt_edge.proofs.laws.puts_fail_as_listed.Goals as goal

pub returns : goal.returns
returns c = puts-fail-as-listed
