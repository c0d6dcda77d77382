use Rattle.std.proofs.Common.{◌≡◌, ◌-◌, ◌++◌, ◌∷◌, [], true, false, map, length, sym}
use Rattle.std.proofs.lemmas.List.{map_push}
use Rattle.std.proofs.lemmas.Result.{err_from_is_err_and}
use Rattle.qtt_phrase.specs.Reading.{begins, many_at}
use Rattle.qtt_syntax.specs.View.{argument_of}
use Rattle.qtt_grammar.specs.Classes.{is_left_brace}
use Rattle.qtt_grammar.specs.Grammar.{of}
use Rattle.qtt_grammar.specs.Readers.{brace_at}
use Rattle.qtt_grammar.specs.View.{inside}
use Rattle.qtt_grammar.proofs.Loops.{alike_ends, alike_stops, alike_goes}
use Rattle.qtt_grammar.proofs.application.braces.Goals as goal

pub returns-then-not-begins : goal.returns-then-not-begins
returns-then-not-begins g c =
    let b : begins (of is_left_brace) c.braces.rest.now ≡ false = sym c.if-not-begins.ensures in
    alike_ends (of is_left_brace) (inside brace_at c.args.level.pass c.args.level.left)
    (map argument_of c.braces.found.items) c.braces.rest.now
    (many_at (of is_left_brace) (inside brace_at c.args.level.pass c.args.level.left) c.args.ahead.now)
    (length c.args.ahead.now - c.braces.counter) b c.braces.invariant

pub returns-in_err-one : goal.returns-in_err-one
returns-in_err-one g c =
    let b : begins (of is_left_brace) c.braces.rest.now ≡ true = sym c.if-not-begins.ensures in
    let e = err_from_is_err_and c.from_residual.result c.from_residual.ensures.1 in
    rw (e.1, e.2) (alike_stops (of is_left_brace) (inside brace_at c.args.level.pass c.args.level.left)
    (map argument_of c.braces.found.items) c.braces.rest.now
    (many_at (of is_left_brace) (inside brace_at c.args.level.pass c.args.level.left) c.args.ahead.now)
    c.in_err-one.field-0.0 (length c.args.ahead.now) c.braces.counter c.braces-test.true b c.in_err-one.ensures
    c.braces.invariant)

pub braces-preserved : goal.braces-preserved
braces-preserved g c =
    let b : begins (of is_left_brace) c.braces.rest.now ≡ true = sym c.if-not-begins.ensures in
    let e : map argument_of c.push.new.self.items ≡ (map argument_of c.braces.found.items) ++ argument_of
    c.in_ok-one.one ∷ [] =
    rw c.in_ok-push.ensures.items (map_push argument_of c.braces.found.items c.in_ok-one.one) in
    rw e (alike_goes (of is_left_brace) (inside brace_at c.args.level.pass c.args.level.left)
    (map argument_of c.braces.found.items) c.braces.rest.now
    (many_at (of is_left_brace) (inside brace_at c.args.level.pass c.args.level.left) c.args.ahead.now)
    (length c.args.ahead.now) c.braces.counter c.in_ok-one.after.now
    (argument_of c.in_ok-one.one) c.braces-test.true b c.in_ok-one.ensures c.braces.invariant)
