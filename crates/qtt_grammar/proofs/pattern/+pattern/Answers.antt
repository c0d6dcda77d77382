use Rattle.std.proofs.Common.{◌≡◌, ◌∙◌, ◌-◌, ◌++◌, ◌∷◌, [], suc, true, false, map, length, ap, sym, arith}
use Rattle.std.proofs.lemmas.List.{map_push, length-append}
use Rattle.std.proofs.lemmas.Result.{err_from_is_err_and}
use Rattle.qtt_phrase.specs.Reading.{begins, counted_at}
use Rattle.qtt_syntax.specs.View.{shape_of}
use Rattle.qtt_grammar.specs.Classes.{starts_pattern, is_constructor}
use Rattle.qtt_grammar.specs.Grammar.{of, group_of, nested_of}
use Rattle.qtt_grammar.specs.Readers.{one_pattern_at, levels_at}
use Rattle.qtt_grammar.proofs.Loops.{counted_ends, counted_stops, counted_goes}
use Rattle.qtt_grammar.proofs.PatternReaders.{pattern_full, bracket_stops, bracket_open, bracket_got, nested_stops, nested_got, group_stops, group_got}
use Rattle.qtt_grammar.proofs.pattern.+pattern.Goals as goal

pub patterns-returns-then-not-begins_pattern : goal.patterns-returns-then-not-begins_pattern
patterns-returns-then-not-begins_pattern t c =
    let b : begins (of starts_pattern) c.patterns.rest.now ≡ false = sym c.if-not-begins_pattern.ensures in
    counted_ends (of starts_pattern)
    (one_pattern_at c.args.level.pass (levels_at c.args.level.pass c.args.level.left))
    (map shape_of c.patterns.found.items) (length c.patterns.found.items) c.patterns.rest.now
    (counted_at (λ n _. suc n) (of starts_pattern)
    (one_pattern_at c.args.level.pass (levels_at c.args.level.pass c.args.level.left)) 0 c.args.ahead.now)
    (length c.args.ahead.now - c.patterns.counter) b c.patterns.invariant

pub patterns-returns-in_err-one : goal.patterns-returns-in_err-one
patterns-returns-in_err-one t c =
    let b : begins (of starts_pattern) c.patterns.rest.now ≡ true = sym c.if-not-begins_pattern.ensures in
    let k : c.len.result ≡ length c.patterns.found.items = c.len.ensures ∙ omega (arith, c.patterns.found.ok.0) in
    let w = rw k at c.in_err-one.ensures in
    let e = err_from_is_err_and c.from_residual.result c.from_residual.ensures.1 in
    rw (e.1, e.2) (counted_stops (of starts_pattern)
    (one_pattern_at c.args.level.pass (levels_at c.args.level.pass c.args.level.left))
    (map shape_of c.patterns.found.items) (length c.patterns.found.items) c.patterns.rest.now
    (counted_at (λ n _. suc n) (of starts_pattern)
    (one_pattern_at c.args.level.pass (levels_at c.args.level.pass c.args.level.left)) 0 c.args.ahead.now)
    c.in_err-one.field-0.0 (length c.args.ahead.now) c.patterns.counter c.patterns-test.true b w
    c.patterns.invariant)

pub patterns-patterns-preserved : goal.patterns-patterns-preserved
patterns-patterns-preserved t c =
    let b : begins (of starts_pattern) c.patterns.rest.now ≡ true = sym c.if-not-begins_pattern.ensures in
    let k : c.len.result ≡ length c.patterns.found.items = c.len.ensures ∙ omega (arith, c.patterns.found.ok.0) in
    let w = rw k at c.in_ok-one.ensures in
    let e : map shape_of c.push.new.self.items ≡ (map shape_of c.patterns.found.items) ++ shape_of c.in_ok-one.one
    ∷ [] = rw c.in_ok-push.ensures.items (map_push shape_of c.patterns.found.items c.in_ok-one.one) in
    let l : length c.push.new.self.items ≡ suc (length c.patterns.found.items) =
    omega (
      arith,
      ap length c.in_ok-push.ensures.items,
      length-append c.patterns.found.items
          (c.in_ok-one.one ∷ []),
    ) in
    rw (e, l) (counted_goes (of starts_pattern)
    (one_pattern_at c.args.level.pass (levels_at c.args.level.pass c.args.level.left))
    (map shape_of c.patterns.found.items) (length c.patterns.found.items) c.patterns.rest.now
    (counted_at (λ n _. suc n) (of starts_pattern)
    (one_pattern_at c.args.level.pass (levels_at c.args.level.pass c.args.level.left)) 0 c.args.ahead.now)
    (length c.args.ahead.now) c.patterns.counter c.in_ok-one.after.now
    (shape_of c.in_ok-one.one) c.patterns-test.true b w c.patterns.invariant)

pub another-returns-then-is_full : goal.another-returns-then-is_full
another-returns-then-is_full t c =
    pattern_full c.args.level.pass c.args.level.left c.args.count c.args.ahead.now c.no_more.result
    (sym c.if-is_full.ensures) c.no_more.ensures

pub bracketed-returns-in_err-inner : goal.bracketed-returns-in_err-inner
bracketed-returns-in_err-inner t c =
    let b : begins (of is_constructor) c.in_ok-span.rest.now ≡ false = sym c.if-not-begins_constructor.ensures in
    let w = rw c.below.ensures at c.in_err-inner.ensures in
    let e = err_from_is_err_and c.from_residual-in_err-inner.result c.from_residual-in_err-inner.ensures.1 in
    rw (e.1, e.2) (bracket_stops c.args.level.pass c.args.level.left c.args.ahead.now c.in_ok-span.span
    c.in_ok-span.rest.now c.in_err-inner.field-0.0 c.in_ok-span.ensures.gives
    (nested_stops c.args.level.pass c.args.level.left c.in_ok-span.rest.now c.in_err-inner.field-0.0
    c.in_ok-span.ensures.may b w))

pub bracketed-returns-in_err-rest : goal.bracketed-returns-in_err-rest
bracketed-returns-in_err-rest t c =
    let b : begins (of is_constructor) c.in_ok-span.rest.now ≡ false = sym c.if-not-begins_constructor.ensures in
    let w = rw c.below.ensures at c.in_ok-inner.ensures in
    let e = err_from_is_err_and c.from_residual-in_err-rest.result c.from_residual-in_err-rest.ensures.1 in
    rw (e.1, e.2) (bracket_open c.args.level.pass c.args.level.left c.args.ahead.now c.in_ok-span.span
    c.in_ok-span.rest.now (nested_of (shape_of c.in_ok-inner.inner)) c.in_ok-inner.rest.now
    c.in_err-rest.field-0.0 c.in_ok-span.ensures.gives
    (nested_got c.args.level.pass c.args.level.left c.in_ok-span.rest.now
    (shape_of c.in_ok-inner.inner) c.in_ok-inner.rest.now c.in_ok-span.ensures.may b w) c.in_err-rest.ensures)

pub bracketed-returns-then-not-begins_constructor : goal.bracketed-returns-then-not-begins_constructor
bracketed-returns-then-not-begins_constructor t c =
    let b : begins (of is_constructor) c.in_ok-span.rest.now ≡ false = sym c.if-not-begins_constructor.ensures in
    let w = rw c.below.ensures at c.in_ok-inner.ensures in
    bracket_got c.args.level.pass c.args.level.left c.args.ahead.now c.in_ok-span.span c.in_ok-span.rest.now
    (nested_of (shape_of c.in_ok-inner.inner)) c.in_ok-inner.rest.now c.in_ok-rest.field-0-0
    c.in_ok-rest.rest.now c.in_ok-span.ensures.gives
    (nested_got c.args.level.pass c.args.level.left c.in_ok-span.rest.now
    (shape_of c.in_ok-inner.inner) c.in_ok-inner.rest.now c.in_ok-span.ensures.may b w) c.in_ok-rest.ensures

pub bracketed-returns-in_err-arguments : goal.bracketed-returns-in_err-arguments
bracketed-returns-in_err-arguments t c =
    let b : begins (of is_constructor) c.in_ok-span.rest.now ≡ true = sym c.if-not-begins_constructor.ensures in
    let w = rw c.below-2.ensures at c.in_err-arguments.ensures in
    let e = err_from_is_err_and c.from_residual-in_err-arguments.result c.from_residual-in_err-arguments.ensures.1 in
    rw (e.1, e.2) (bracket_stops c.args.level.pass c.args.level.left c.args.ahead.now c.in_ok-span.span
    c.in_ok-span.rest.now c.in_err-arguments.field-0.0 c.in_ok-span.ensures.gives
    (group_stops c.args.level.pass c.args.level.left c.in_ok-span.rest.now c.in_ok-head.head
    c.in_ok-head.rest.now c.in_err-arguments.field-0.0 c.in_ok-span.ensures.may b c.in_ok-head.ensures w))

pub bracketed-returns-in_err-rest-2 : goal.bracketed-returns-in_err-rest-2
bracketed-returns-in_err-rest-2 t c =
    let b : begins (of is_constructor) c.in_ok-span.rest.now ≡ true = sym c.if-not-begins_constructor.ensures in
    let w = rw c.below-2.ensures at c.in_ok-arguments.ensures in
    let e = err_from_is_err_and c.from_residual-in_err-rest-2.result c.from_residual-in_err-rest-2.ensures.1 in
    rw (e.1, e.2) (bracket_open c.args.level.pass c.args.level.left c.args.ahead.now c.in_ok-span.span
    c.in_ok-span.rest.now (group_of (c.in_ok-head.head, map shape_of c.in_ok-arguments.arguments.items))
    c.in_ok-arguments.rest.now c.in_err-rest-2.field-0.0 c.in_ok-span.ensures.gives
    (group_got c.args.level.pass c.args.level.left c.in_ok-span.rest.now c.in_ok-head.head
    c.in_ok-head.rest.now (map shape_of c.in_ok-arguments.arguments.items) c.in_ok-arguments.rest.now
    c.in_ok-span.ensures.may b c.in_ok-head.ensures w) c.in_err-rest-2.ensures)

pub bracketed-returns : goal.bracketed-returns
bracketed-returns t c =
    let b : begins (of is_constructor) c.in_ok-span.rest.now ≡ true = sym c.if-not-begins_constructor.ensures in
    let w = rw c.below-2.ensures at c.in_ok-arguments.ensures in
    rw c.group.ensures (bracket_got c.args.level.pass c.args.level.left c.args.ahead.now c.in_ok-span.span
    c.in_ok-span.rest.now (group_of (c.in_ok-head.head, map shape_of c.in_ok-arguments.arguments.items))
    c.in_ok-arguments.rest.now c.in_ok-rest-2.field-0-0 c.in_ok-rest-2.rest.now c.in_ok-span.ensures.gives
    (group_got c.args.level.pass c.args.level.left c.in_ok-span.rest.now c.in_ok-head.head
    c.in_ok-head.rest.now (map shape_of c.in_ok-arguments.arguments.items) c.in_ok-arguments.rest.now
    c.in_ok-span.ensures.may b c.in_ok-head.ensures w) c.in_ok-rest-2.ensures)
