use Rattle.std.proofs.Common.{◌≡◌, ◌-◌, true, false, not, length, sym}
use Rattle.std.proofs.lemmas.Result.{err_from_is_err_and}
use Rattle.qtt_phrase.specs.Reading.{begins}
use Rattle.qtt_grammar.specs.ChainReaders.{con_chain_at}
use Rattle.qtt_grammar.specs.ChainView.{cons_from, chained_within}
use Rattle.qtt_grammar.specs.Classes.{is_big}
use Rattle.qtt_grammar.specs.Grammar.{of}
use Rattle.qtt_grammar.proofs.ChainLoops.{forgets_stops, forgets_ends, goes_open, goes_closed}
use Rattle.qtt_grammar.proofs.chain_text.more_cons.Goals as goal

pub returns-then-not-begins : goal.returns-then-not-begins
returns-then-not-begins c =
    let b : begins (of is_big) c.cons.rest.now ≡ false = sym c.if-not-begins.ensures in
    forgets_ends (λ b. b) not (λ _ b. b) (λ _. of is_big) (λ _. chained_within con_chain_at c.args.left) false
    c.cons.rest.now (cons_from c.args.left (length c.args.ahead.now) c.args.ahead.now)
    (length c.args.ahead.now - c.cons.counter) b c.cons.invariant

pub returns-in_err-closed : goal.returns-in_err-closed
returns-in_err-closed c =
    let b : begins (of is_big) c.cons.rest.now ≡ true = sym c.if-not-begins.ensures in
    let e = err_from_is_err_and c.from_residual.result c.from_residual.ensures.1 in
    rw (e.1, e.2) (forgets_stops (λ b. b) not (λ _ b. b) (λ _. of is_big)
    (λ _. chained_within con_chain_at c.args.left) false c.cons.rest.now
    (cons_from c.args.left (length c.args.ahead.now) c.args.ahead.now) c.in_err-closed.field-0.0
    (length c.args.ahead.now) c.cons.counter c.cons-test.true b c.in_err-closed.ensures c.cons.invariant)

pub returns-then-closed : goal.returns-then-closed
returns-then-closed c =
    let b : begins (of is_big) c.cons.rest.now ≡ true = sym c.if-not-begins.ensures in
    goes_closed (of is_big) (chained_within con_chain_at c.args.left) c.cons.rest.now
    (cons_from c.args.left (length c.args.ahead.now) c.args.ahead.now) (length c.args.ahead.now) c.cons.counter
    c.in_ok-closed.after.now c.in_ok-closed.closed c.if-closed.true c.cons-test.true b c.in_ok-closed.ensures
    c.cons.invariant

pub cons-preserved : goal.cons-preserved
cons-preserved c =
    let b : begins (of is_big) c.cons.rest.now ≡ true = sym c.if-not-begins.ensures in
    goes_open (of is_big) (chained_within con_chain_at c.args.left) c.cons.rest.now
    (cons_from c.args.left (length c.args.ahead.now) c.args.ahead.now) (length c.args.ahead.now) c.cons.counter
    c.in_ok-closed.after.now c.in_ok-closed.closed c.if-closed.false c.cons-test.true b c.in_ok-closed.ensures
    c.cons.invariant
