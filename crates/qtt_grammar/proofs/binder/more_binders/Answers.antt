use Rattle.std.proofs.Common.{◌≡◌, ◌-◌, ◌++◌, ◌∷◌, [], true, false, map, length, sym}
use Rattle.std.proofs.lemmas.List.{map_push}
use Rattle.std.proofs.lemmas.Result.{err_from_is_err_and}
use Rattle.qtt_phrase.specs.Reading.{begins, many_at}
use Rattle.qtt_syntax.specs.View.{binder_of}
use Rattle.qtt_grammar.specs.Classes.{starts_binder}
use Rattle.qtt_grammar.specs.Grammar.{of}
use Rattle.qtt_grammar.specs.Readers.{binder_at}
use Rattle.qtt_grammar.specs.View.{inside, with_front}
use Rattle.qtt_grammar.proofs.Loops.{alike_ends, alike_stops, alike_goes}
use Rattle.qtt_grammar.proofs.binder.more_binders.Goals as goal

pub returns-then-not-begins_binders : goal.returns-then-not-begins_binders
returns-then-not-begins_binders g c =
    let p = inside binder_at c.args.level.pass c.args.level.left in
    let b : begins (of starts_binder) c.binders.rest.now ≡ false = sym c.if-not-begins_binders.ensures in
    alike_ends (of starts_binder) p (map binder_of c.binders.found.items) c.binders.rest.now
    (with_front (map binder_of c.args.found.items) (many_at (of starts_binder) p c.args.ahead.now))
    (length c.args.ahead.now - c.binders.counter) b c.binders.invariant

pub returns-in_err-one : goal.returns-in_err-one
returns-in_err-one g c =
    let p = inside binder_at c.args.level.pass c.args.level.left in
    let b : begins (of starts_binder) c.binders.rest.now ≡ true = sym c.if-not-begins_binders.ensures in
    let e = err_from_is_err_and c.from_residual.result c.from_residual.ensures.1 in
    rw (e.1, e.2) (alike_stops (of starts_binder) p (map binder_of c.binders.found.items) c.binders.rest.now
    (with_front (map binder_of c.args.found.items) (many_at (of starts_binder) p c.args.ahead.now))
    c.in_err-one.field-0.0 (length c.args.ahead.now) c.binders.counter c.binders-test.true b
    c.in_err-one.ensures c.binders.invariant)

pub binders-preserved : goal.binders-preserved
binders-preserved g c =
    let p = inside binder_at c.args.level.pass c.args.level.left in
    let b : begins (of starts_binder) c.binders.rest.now ≡ true = sym c.if-not-begins_binders.ensures in
    let e : map binder_of c.push.new.self.items ≡ (map binder_of c.binders.found.items) ++ binder_of
    c.in_ok-one.one ∷ [] =
    rw c.in_ok-push.ensures.items (map_push binder_of c.binders.found.items c.in_ok-one.one) in
    rw e (alike_goes (of starts_binder) p (map binder_of c.binders.found.items) c.binders.rest.now
    (with_front (map binder_of c.args.found.items) (many_at (of starts_binder) p c.args.ahead.now))
    (length c.args.ahead.now) c.binders.counter c.in_ok-one.after.now
    (binder_of c.in_ok-one.one) c.binders-test.true b c.in_ok-one.ensures c.binders.invariant)
