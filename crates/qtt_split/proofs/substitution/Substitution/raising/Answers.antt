use Rattle.qtt_split.proofs.Substituted.{unmoved}
use Rattle.qtt_split.proofs.substitution.Substitution.raising.Goals as goal

pub returns : goal.returns
returns c = λ i. unmoved c.new.result.items c.args.by i c.new.ensures.items
