use Rattle.std.proofs.Common.{◌≡◌, ◌-◌, length}
use Rattle.qtt_grammar.specs.ChainView.{cons_from}
use Rattle.qtt_grammar.proofs.chain_text.more_cons.Given as goal

abbrev pub invariant-cons : goal.invariant-cons
invariant-cons l = cons_from l.left (length l.ahead - l.counter) l.rest ≡ cons_from l.left (length l.ahead) l.ahead
