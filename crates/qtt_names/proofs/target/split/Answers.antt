use Rattle.qtt_names.proofs.Dots.{split_gives}
use Rattle.qtt_names.proofs.target.split.Goals as goal

pub returns : goal.returns
returns c = split_gives c.args.path.now _ c.rsplit_once.ensures.cases
