use Rattle.std.proofs.Common.{◌≡◌, ◌-◌, ◌++◌, ◌∷◌, [], suc, map, length, sym, ap, ◌∙◌, arith}
use Rattle.std.proofs.lemmas.List.{map_push, length-append}
use Rattle.std.proofs.lemmas.Result.{err_from_is_err_and}
use Rattle.qtt_syntax.specs.View.{statement_of}
use Rattle.qtt_grammar.specs.Grammar.{standing_of}
use Rattle.qtt_grammar.specs.Readers.{lines_at}
use Rattle.qtt_grammar.specs.View.{inside, with_front}
use Rattle.qtt_grammar.proofs.Statements.{lines_end, lines_out, lines_stop, lines_go}
use Rattle.qtt_grammar.proofs.lines.lines.Goals as goal

pub returns-then-not-goes_on : goal.returns-then-not-goes_on
returns-then-not-goes_on g c =
    let total = with_front (statement_of c.args.first ∷ [])
    (inside lines_at c.args.level.pass c.args.level.left c.args.tail
    (1, standing_of (statement_of c.args.first)) c.args.ahead.now) in
    rw (lines_end c.args.level.pass c.args.level.left c.args.tail (map statement_of c.lines.found.items)
    (length c.lines.found.items) c.lines.standing c.lines.rest.now total
    (length c.args.ahead.now - c.lines.counter) (sym c.if-not-goes_on.ensures) c.lines.invariant)
    c.ended.ensures

pub returns-in_err-one : goal.returns-in_err-one
returns-in_err-one g c =
    let total = with_front (statement_of c.args.first ∷ [])
    (inside lines_at c.args.level.pass c.args.level.left c.args.tail
    (1, standing_of (statement_of c.args.first)) c.args.ahead.now) in
    let k : c.len.result ≡ length c.lines.found.items = c.len.ensures ∙ omega (arith, c.lines.found.ok.0) in
    let w = rw k at c.in_err-one.ensures in
    let e = err_from_is_err_and c.from_residual-in_err-one.result c.from_residual-in_err-one.ensures.1 in
    rw (e.1, e.2) (lines_stop c.args.level.pass c.args.level.left c.args.tail
    (map statement_of c.lines.found.items) (length c.lines.found.items) c.lines.standing c.lines.rest.now
    total c.in_err-one.field-0.0 (length c.args.ahead.now) c.lines.counter c.lines-test.true
    (sym c.if-not-goes_on.ensures) w c.lines.invariant)

pub lines-preserved : goal.lines-preserved
lines-preserved g c =
    let total = with_front (statement_of c.args.first ∷ [])
    (inside lines_at c.args.level.pass c.args.level.left c.args.tail
    (1, standing_of (statement_of c.args.first)) c.args.ahead.now) in
    let k : c.len.result ≡ length c.lines.found.items = c.len.ensures ∙ omega (arith, c.lines.found.ok.0) in
    let w = rw k at c.in_ok-one.ensures in
    let e : map statement_of c.push-in-lines.new.self.items ≡ (map statement_of c.lines.found.items) ++
    statement_of c.in_ok-one.one ∷ [] =
    rw c.in_ok-push-2.ensures.items (map_push statement_of c.lines.found.items c.in_ok-one.one) in
    let l : length c.push-in-lines.new.self.items ≡ suc (length c.lines.found.items) =
    omega (
      arith,
      ap length c.in_ok-push-2.ensures.items,
      length-append c.lines.found.items (c.in_ok-one.one ∷ []),
    ) in
    rw (e, l, c.standing_of-standing-in-lines.ensures)
    (lines_go c.args.level.pass c.args.level.left c.args.tail (map statement_of c.lines.found.items)
    (length c.lines.found.items) c.lines.standing c.lines.rest.now total
    (length c.args.ahead.now) c.lines.counter c.in_ok-one.after.now
    (statement_of c.in_ok-one.one) c.lines-test.true (sym c.if-not-goes_on.ensures) w c.lines.invariant)

pub returns : goal.returns
returns g c =
    let total = with_front (statement_of c.args.first ∷ [])
    (inside lines_at c.args.level.pass c.args.level.left c.args.tail
    (1, standing_of (statement_of c.args.first)) c.args.ahead.now) in
    rw (lines_out c.args.level.pass c.args.level.left c.args.tail (map statement_of c.lines.found.items)
    (length c.lines.found.items) c.lines.standing c.lines.rest.now total
    (length c.args.ahead.now - c.lines.counter) (omega arith) c.lines.invariant) c.ended-2.ensures
