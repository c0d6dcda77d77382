use Rattle.std.proofs.Common.{sym}
use Rattle.std.specs.Prelude.{nat_lt}
use Rattle.qtt_grammar.specs.declared.class.Pass.TheVariants.{Free}
use Rattle.qtt_grammar.specs.View.{below}
use Rattle.qtt_grammar.specs.ChainView.{chains_below}
use Rattle.qtt_grammar.proofs.ChainBelow.{binder_stops, codomain_stops}
use Rattle.qtt_grammar.proofs.chain.+chain.Goals as goal

pub binder_chain-returns-then-is_extra : goal.binder_chain-returns-then-is_extra
binder_chain-returns-then-is_extra t c =
    binder_stops (nat_lt 0 c.args.left) (below Free c.args.left) (chains_below c.args.left) c.args.before
    c.args.ahead.now c.extra_binder.result (sym c.if-is_extra.ensures.full) (sym c.if-not-begins_binder.ensures)
    c.extra_binder.ensures

pub placed_codomain-returns-then-is_extra : goal.placed_codomain-returns-then-is_extra
placed_codomain-returns-then-is_extra t c =
    codomain_stops (nat_lt 0 c.args.left) (below Free c.args.left) (chains_below c.args.left) c.args.before
    c.args.ahead.now c.extra_arrow.result (sym c.if-is_extra.ensures.full) c.args.place c.extra_arrow.ensures
