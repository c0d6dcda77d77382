use Rattle.std.proofs.Common.{◌≡◌, ◌-◌, true, length}
use Rattle.qtt_phrase.specs.Reading.{counted_at, making_at, run_at}
use Rattle.qtt_grammar.specs.ChainReaders.{ignored, entry_chain_at}
use Rattle.qtt_grammar.specs.ChainView.{chained_within}
use Rattle.qtt_grammar.specs.Classes.{is_next}
use Rattle.qtt_grammar.specs.Grammar.{of}
use Rattle.qtt_grammar.proofs.chain_text.entries.Given as goal

abbrev pub invariant-entries : goal.invariant-entries
invariant-entries l =
    making_at ignored (run_at (λ _. true) (λ _. true) (λ _ b. b) (λ _. of is_next)
    (chained_within entry_chain_at l.left) (length l.ahead - l.counter) l.imports) l.rest
    ≡ making_at ignored (counted_at (λ _ b. b) (of is_next) (chained_within entry_chain_at l.left) true) l.ahead
