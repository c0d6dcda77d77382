use Rattle.std.proofs.Common.{◌≡◌, ◌-◌, true, false, length, sym}
use Rattle.std.proofs.lemmas.Result.{err_from_is_err_and}
use Rattle.qtt_phrase.specs.Reading.{begins, counted_at, making_at}
use Rattle.qtt_grammar.specs.ChainReaders.{ignored, entry_chain_at}
use Rattle.qtt_grammar.specs.ChainView.{chained_within}
use Rattle.qtt_grammar.specs.Classes.{is_next}
use Rattle.qtt_grammar.specs.Grammar.{of}
use Rattle.qtt_grammar.proofs.ChainLoops.{forgets_goes, forgets_stops, forgets_ends}
use Rattle.qtt_grammar.proofs.chain_text.entries.Goals as goal

pub returns-then-not-begins : goal.returns-then-not-begins
returns-then-not-begins c =
    let b : begins (of is_next) c.entries.rest.now ≡ false = sym c.if-not-begins.ensures in
    forgets_ends (λ _. true) (λ _. true) (λ _ b. b) (λ _. of is_next) (chained_within entry_chain_at c.args.left)
    c.entries.imports c.entries.rest.now
    (making_at ignored (counted_at (λ _ b. b) (of is_next) (chained_within entry_chain_at c.args.left) true)
    c.args.ahead.now) (length c.args.ahead.now - c.entries.counter) b c.entries.invariant

pub returns-in_err-still : goal.returns-in_err-still
returns-in_err-still c =
    let b : begins (of is_next) c.entries.rest.now ≡ true = sym c.if-not-begins.ensures in
    let e = err_from_is_err_and c.from_residual.result c.from_residual.ensures.1 in
    rw (e.1, e.2) (forgets_stops (λ _. true) (λ _. true) (λ _ b. b) (λ _. of is_next)
    (chained_within entry_chain_at c.args.left) c.entries.imports c.entries.rest.now
    (making_at ignored (counted_at (λ _ b. b) (of is_next) (chained_within entry_chain_at c.args.left) true)
    c.args.ahead.now) c.in_err-still.field-0.0 (length c.args.ahead.now) c.entries.counter c.entries-test.true b
    c.in_err-still.ensures c.entries.invariant)

pub entries-preserved : goal.entries-preserved
entries-preserved c =
    let b : begins (of is_next) c.entries.rest.now ≡ true = sym c.if-not-begins.ensures in
    forgets_goes (λ _. true) (λ _. true) (λ _ b. b) (λ _. of is_next) (chained_within entry_chain_at c.args.left)
    c.entries.imports c.entries.rest.now
    (making_at ignored (counted_at (λ _ b. b) (of is_next) (chained_within entry_chain_at c.args.left) true)
    c.args.ahead.now) (length c.args.ahead.now) c.entries.counter c.in_ok-still.after.now c.in_ok-still.still
    c.entries-test.true b c.in_ok-still.ensures c.entries.invariant
