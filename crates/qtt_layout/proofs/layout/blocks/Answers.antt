use Rattle.qtt_layout.proofs.Balance.{tokens_of_answer, blocks_of_answer, nexts_of_answer}
use Rattle.qtt_layout.proofs.layout.blocks.Goals as goal

pub returns-clause-tokens : goal.returns-clause-tokens
returns-clause-tokens c = tokens_of_answer c.args.tokens.now c.marks_of.result c.marks_of.ensures

pub returns-clause-blocks : goal.returns-clause-blocks
returns-clause-blocks c = blocks_of_answer c.args.tokens.now c.marks_of.result c.marks_of.ensures

pub returns-clause-nexts : goal.returns-clause-nexts
returns-clause-nexts c = nexts_of_answer c.args.tokens.now c.marks_of.result c.marks_of.ensures
