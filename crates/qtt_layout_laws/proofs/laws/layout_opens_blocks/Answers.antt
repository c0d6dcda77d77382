use Rattle.qtt_layout_laws.proofs.Openings.{opens_blocks}
use Rattle.qtt_layout_laws.proofs.laws.layout_opens_blocks.Goals as goal

pub returns : goal.returns
returns c = opens_blocks
