use Rattle.std.proofs.Common.{sym}
use Rattle.std.specs.Prelude.{nat_lt}
use Rattle.qtt_grammar.specs.declared.class.Pass.TheVariants.{Free}
use Rattle.qtt_grammar.specs.View.{below}
use Rattle.qtt_grammar.specs.ChainView.{chains_below}
use Rattle.qtt_grammar.proofs.ChainBelow.{implicit_stops}
use Rattle.qtt_grammar.proofs.chain.+typing_chain.Goals as goal

pub implicit_chain-returns-then-is_extra : goal.implicit_chain-returns-then-is_extra
implicit_chain-returns-then-is_extra t c =
    implicit_stops (nat_lt 0 c.args.left) (below Free c.args.left) (chains_below c.args.left) c.args.before
    c.args.ahead.now c.extra_braces.result (sym c.if-is_extra.ensures.full) c.extra_braces.ensures
