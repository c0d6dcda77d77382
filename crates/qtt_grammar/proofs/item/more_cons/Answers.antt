use Rattle.std.proofs.Common.{◌≡◌, ◌∙◌, ◌-◌, ◌++◌, ◌∷◌, [], suc, true, false, map, length, ap, sym, arith}
use Rattle.std.proofs.lemmas.List.{map_push, length-append}
use Rattle.std.proofs.lemmas.Result.{err_from_is_err_and}
use Rattle.qtt_phrase.specs.Reading.{begins}
use Rattle.qtt_syntax.specs.View.{con_of}
use Rattle.qtt_grammar.specs.Classes.{is_next}
use Rattle.qtt_grammar.specs.Grammar.{of}
use Rattle.qtt_grammar.specs.Readers.{next_con_at, more_cons_at}
use Rattle.qtt_grammar.specs.View.{within, with_front}
use Rattle.qtt_grammar.proofs.Loops.{counted_ends, counted_stops, counted_goes}
use Rattle.qtt_grammar.proofs.item.more_cons.Goals as goal

pub returns-then-not-begins : goal.returns-then-not-begins
returns-then-not-begins c =
    let p = within next_con_at c.args.level.pass c.args.level.left in
    let b : begins (of is_next) c.cons.rest.now ≡ false = sym c.if-not-begins.ensures in
    counted_ends (of is_next) p (map con_of c.cons.found.items) (length c.cons.found.items) c.cons.rest.now
    (with_front (con_of c.args.first ∷ [])
    (within more_cons_at c.args.level.pass c.args.level.left 1 c.args.ahead.now))
    (length c.args.ahead.now - c.cons.counter) b c.cons.invariant

pub returns-in_err-one : goal.returns-in_err-one
returns-in_err-one c =
    let p = within next_con_at c.args.level.pass c.args.level.left in
    let b : begins (of is_next) c.cons.rest.now ≡ true = sym c.if-not-begins.ensures in
    let k : c.len.result ≡ length c.cons.found.items = c.len.ensures ∙ omega (arith, c.cons.found.ok.0) in
    let w = rw k at c.in_err-one.ensures in
    let e = err_from_is_err_and c.from_residual-in_err-one.result c.from_residual-in_err-one.ensures.1 in
    rw (e.1, e.2) (counted_stops (of is_next) p (map con_of c.cons.found.items)
    (length c.cons.found.items) c.cons.rest.now
    (with_front (con_of c.args.first ∷ [])
    (within more_cons_at c.args.level.pass c.args.level.left 1 c.args.ahead.now)) c.in_err-one.field-0.0
    (length c.args.ahead.now) c.cons.counter c.cons-test.true b w c.cons.invariant)

pub cons-preserved : goal.cons-preserved
cons-preserved c =
    let p = within next_con_at c.args.level.pass c.args.level.left in
    let b : begins (of is_next) c.cons.rest.now ≡ true = sym c.if-not-begins.ensures in
    let k : c.len.result ≡ length c.cons.found.items = c.len.ensures ∙ omega (arith, c.cons.found.ok.0) in
    let w = rw k at c.in_ok-one.ensures in
    let e : map con_of c.push-in-cons.new.self.items ≡ (map con_of c.cons.found.items) ++ con_of c.in_ok-one.one ∷
    [] = rw c.in_ok-push-2.ensures.items (map_push con_of c.cons.found.items c.in_ok-one.one) in
    let l : length c.push-in-cons.new.self.items ≡ suc (length c.cons.found.items) =
    omega (
      arith,
      ap length c.in_ok-push-2.ensures.items,
      length-append c.cons.found.items (c.in_ok-one.one ∷ []),
    ) in
    rw (e, l) (counted_goes (of is_next) p (map con_of c.cons.found.items)
    (length c.cons.found.items) c.cons.rest.now
    (with_front (con_of c.args.first ∷ [])
    (within more_cons_at c.args.level.pass c.args.level.left 1 c.args.ahead.now))
    (length c.args.ahead.now) c.cons.counter c.in_ok-one.after.now (con_of c.in_ok-one.one) c.cons-test.true b
    w c.cons.invariant)
