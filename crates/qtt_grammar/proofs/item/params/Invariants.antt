use Rattle.std.proofs.Common.{◌≡◌, ◌-◌, map, length}
use Rattle.qtt_base.specs.declared.limits.Quantity.TheVariants as quantity
use Rattle.qtt_phrase.specs.Reading.Kind.{unexpected}
use Rattle.qtt_syntax.specs.View.{param_of}
use Rattle.qtt_grammar.specs.Classes.{is_left_paren}
use Rattle.qtt_grammar.specs.Grammar.{of}
use Rattle.qtt_grammar.specs.Readers.{up_to_at, param_at, params_at}
use Rattle.qtt_grammar.specs.View.{within, with_front}
use Rattle.qtt_grammar.proofs.Loops.{counted_run}
use Rattle.qtt_grammar.proofs.item.params.Given as goal

abbrev pub invariant-params : goal.invariant-params
invariant-params l =
    with_front (map param_of l.found.items)
    (counted_run (of is_left_paren)
    (up_to_at l.level.pass quantity.Parts (of is_left_paren) (λ _. unexpected)
    (within param_at l.level.pass l.level.left)) (length l.ahead - l.counter) (length l.found.items) l.rest)
    ≡ within params_at l.level.pass l.level.left 0 l.ahead
