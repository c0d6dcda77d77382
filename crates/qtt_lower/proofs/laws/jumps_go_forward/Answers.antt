use Rattle.qtt_lower.proofs.Forward.{jumps-go-forward as the_law}
use Rattle.qtt_lower.proofs.laws.jumps_go_forward.Goals as goal

pub returns : goal.returns
returns c = the_law
