use Rattle.std.proofs.Common.{◌+◌, ◌*◌}
use Rattle.qtt_grammar.proofs.chain.+typing_chain.Given as goal

abbrev pub decreases-implicit_chain : goal.decreases-implicit_chain
decreases-implicit_chain l = 2 * l.left

abbrev pub decreases-typing_chain : goal.decreases-typing_chain
decreases-typing_chain l = 2 * l.left + 1
