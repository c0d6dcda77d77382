use Rattle.std.proofs.Common.{◌+◌, ◌*◌}
use Rattle.qtt_grammar.proofs.chain.+chain.Given as goal

abbrev pub decreases-codomain_chain : goal.decreases-codomain_chain
decreases-codomain_chain l = 5 * l.left

abbrev pub decreases-pi_chain : goal.decreases-pi_chain
decreases-pi_chain l = 5 * l.left + 1

abbrev pub decreases-placed_codomain : goal.decreases-placed_codomain
decreases-placed_codomain l = 5 * l.left + 1

abbrev pub decreases-arrow_chain : goal.decreases-arrow_chain
decreases-arrow_chain l = 5 * l.left + 2

abbrev pub decreases-binder_chain : goal.decreases-binder_chain
decreases-binder_chain l = 5 * l.left + 3

abbrev pub decreases-expr_chain : goal.decreases-expr_chain
decreases-expr_chain l = 5 * l.left + 4
