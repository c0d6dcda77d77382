use Rattle.std.proofs.Common.{◌≡◌, ◌-◌, true, false, length, sym, ap, arith}
use Rattle.std.proofs.lemmas.Result.{err_from_is_err_and}
use Rattle.qtt_phrase.specs.Reading.{begins}
use Rattle.qtt_grammar.specs.Classes.{is_next}
use Rattle.qtt_grammar.specs.Grammar.{of, Place, start, next_place}
use Rattle.qtt_grammar.specs.Readers.{entry_at, entries_at}
use Rattle.qtt_grammar.specs.View.{within, body_of, place_of, entry_of}
use Rattle.qtt_grammar.proofs.Entries.{entries_start, entries_end, entries_stop, entries_go, clauses_step}
use Rattle.qtt_grammar.proofs.text.entries.Goals as goal

pub returns-then-not-begins : goal.returns-then-not-begins
returns-then-not-begins c =
    let b : begins (of is_next) c.entries.rest.now ≡ false = sym c.if-not-begins.ensures in
    entries_end (within entry_at c.args.level.pass c.args.level.left) (body_of c.entries.body)
    (place_of c.entries.body) c.entries.rest.now
    (within entries_at c.args.level.pass c.args.level.left start c.args.ahead.now)
    (length c.args.ahead.now - c.entries.counter) b c.entries.invariant.0

pub returns-in_err-one : goal.returns-in_err-one
returns-in_err-one c =
    let b : begins (of is_next) c.entries.rest.now ≡ true = sym c.if-not-begins.ensures in
    let e = err_from_is_err_and c.from_residual-in_err-one.result c.from_residual-in_err-one.ensures.1 in
    rw (e.1, e.2) (entries_stop (within entry_at c.args.level.pass c.args.level.left) (body_of c.entries.body)
    (place_of c.entries.body) c.entries.rest.now
    (within entries_at c.args.level.pass c.args.level.left start c.args.ahead.now) c.in_err-one.field-0.0
    (length c.args.ahead.now) c.entries.counter c.entries-test.true b c.in_err-one.ensures
    c.entries.invariant.0)

pub entries-init : goal.entries-init
entries-init c =
    let n : c.in_ok-body.body.clauses ≡ 0 = ap (λ (p : Place). p.clauses) c.in_ok-body.ensures.place in (
      entries_start c.args.level.pass c.args.level.left (body_of c.in_ok-body.body)
          (place_of c.in_ok-body.body) c.args.ahead.now c.in_ok-body.ensures.parts c.in_ok-body.ensures.place,
      omega (arith, n),
    )

pub entries-preserved : goal.entries-preserved
entries-preserved c =
    let b : begins (of is_next) c.entries.rest.now ≡ true = sym c.if-not-begins.ensures in
    let n : c.push.new.self.clauses ≡ (next_place (place_of c.entries.body) (entry_of c.in_ok-one.one)).clauses =
    ap (λ (p : Place). p.clauses) c.in_ok-push.ensures.place in
    let m = clauses_step (place_of c.entries.body) (entry_of c.in_ok-one.one) in
    let i = c.entries.invariant.1 in (
      rw (c.in_ok-push.ensures.parts, c.in_ok-push.ensures.place)
          (entries_go (within entry_at c.args.level.pass c.args.level.left) (body_of c.entries.body)
          (place_of c.entries.body) c.entries.rest.now
          (within entries_at c.args.level.pass c.args.level.left start c.args.ahead.now)
          (length c.args.ahead.now) c.entries.counter c.in_ok-one.after.now
          (entry_of c.in_ok-one.one) c.entries-test.true b c.in_ok-one.ensures c.entries.invariant.0),
      omega (arith, n, m, i),
    )
