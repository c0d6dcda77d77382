use Rattle.std.proofs.Common.{◌≡◌, ◌∙◌, ◌-◌, ◌++◌, ◌∷◌, [], suc, true, false, map, length, ap, sym, arith}
use Rattle.std.proofs.lemmas.List.{map_push, length-append}
use Rattle.std.proofs.lemmas.Result.{err_from_is_err_and}
use Rattle.qtt_base.specs.declared.limits.Quantity.TheVariants as quantity
use Rattle.qtt_phrase.specs.Reading.{begins}
use Rattle.qtt_phrase.specs.Reading.Kind.{unexpected}
use Rattle.qtt_syntax.specs.View.{param_of}
use Rattle.qtt_grammar.specs.Classes.{is_left_paren}
use Rattle.qtt_grammar.specs.Grammar.{of}
use Rattle.qtt_grammar.specs.Readers.{up_to_at, param_at, params_at}
use Rattle.qtt_grammar.specs.View.{within}
use Rattle.qtt_grammar.proofs.Loops.{counted_ends, counted_stops, counted_goes}
use Rattle.qtt_grammar.proofs.item.params.Goals as goal

pub returns-then-not-begins : goal.returns-then-not-begins
returns-then-not-begins c =
    let p = up_to_at c.args.level.pass quantity.Parts (of is_left_paren) (λ _. unexpected)
    (within param_at c.args.level.pass c.args.level.left) in
    let b : begins (of is_left_paren) c.params.rest.now ≡ false = sym c.if-not-begins.ensures in
    counted_ends (of is_left_paren) p (map param_of c.params.found.items)
    (length c.params.found.items) c.params.rest.now
    (within params_at c.args.level.pass c.args.level.left 0 c.args.ahead.now)
    (length c.args.ahead.now - c.params.counter) b c.params.invariant

pub returns-in_err-one : goal.returns-in_err-one
returns-in_err-one c =
    let p = up_to_at c.args.level.pass quantity.Parts (of is_left_paren) (λ _. unexpected)
    (within param_at c.args.level.pass c.args.level.left) in
    let b : begins (of is_left_paren) c.params.rest.now ≡ true = sym c.if-not-begins.ensures in
    let k : c.len.result ≡ length c.params.found.items = c.len.ensures ∙ omega (arith, c.params.found.ok.0) in
    let w = rw k at c.in_err-one.ensures in
    let e = err_from_is_err_and c.from_residual.result c.from_residual.ensures.1 in
    rw (e.1, e.2) (counted_stops (of is_left_paren) p (map param_of c.params.found.items)
    (length c.params.found.items) c.params.rest.now
    (within params_at c.args.level.pass c.args.level.left 0 c.args.ahead.now) c.in_err-one.field-0.0
    (length c.args.ahead.now) c.params.counter c.params-test.true b w c.params.invariant)

pub params-preserved : goal.params-preserved
params-preserved c =
    let p = up_to_at c.args.level.pass quantity.Parts (of is_left_paren) (λ _. unexpected)
    (within param_at c.args.level.pass c.args.level.left) in
    let b : begins (of is_left_paren) c.params.rest.now ≡ true = sym c.if-not-begins.ensures in
    let k : c.len.result ≡ length c.params.found.items = c.len.ensures ∙ omega (arith, c.params.found.ok.0) in
    let w = rw k at c.in_ok-one.ensures in
    let e : map param_of c.push.new.self.items ≡ (map param_of c.params.found.items) ++ param_of c.in_ok-one.one ∷
    [] = rw c.in_ok-push.ensures.items (map_push param_of c.params.found.items c.in_ok-one.one) in
    let l : length c.push.new.self.items ≡ suc (length c.params.found.items) =
    omega (
      arith,
      ap length c.in_ok-push.ensures.items,
      length-append c.params.found.items (c.in_ok-one.one ∷ []),
    ) in
    rw (e, l) (counted_goes (of is_left_paren) p (map param_of c.params.found.items)
    (length c.params.found.items) c.params.rest.now
    (within params_at c.args.level.pass c.args.level.left 0 c.args.ahead.now)
    (length c.args.ahead.now) c.params.counter c.in_ok-one.after.now
    (param_of c.in_ok-one.one) c.params-test.true b w c.params.invariant)
