use Rattle.std.proofs.Common.{◌≡◌, refl, subst}
use Rattle.std.proofs.lemmas.Result.{err_from_is_err_and}
use Rattle.qtt_phrase.specs.Reading.{Read, placed_at}
use Rattle.qtt_phrase.specs.Reading.Read.{got}
use Rattle.qtt_syntax.specs.Tree.{Tree}
use Rattle.qtt_syntax.specs.View.{tree_of}
use Rattle.qtt_grammar.specs.declared.stop.Excess.{Excess}
use Rattle.qtt_grammar.specs.declared.lexeme.Lexeme.{Lexeme}
use Rattle.qtt_grammar.specs.Grammar.{place, run_of}
use Rattle.qtt_grammar.specs.Readers.{other_expr_at}
use Rattle.qtt_grammar.specs.View.{Fails, inside}
use Rattle.qtt_grammar.proofs.Loops.{made_stops}
use Rattle.qtt_grammar.proofs.Statements.{no_let, placed_stops, placed_got}
use Rattle.qtt_grammar.proofs.block.run.Goals as goal

pub returns-in_err-value : goal.returns-in_err-value
returns-in_err-value g c =
    let p = inside other_expr_at c.args.level.pass c.args.level.left c.args.tail in
    let e = err_from_is_err_and c.from_residual-in_err-value.result c.from_residual-in_err-value.ensures.1 in
    let h : Fails c.in_err-value.field-0.0 (p c.args.ahead.now) =
    subst (λ (r : Read Lexeme Excess Tree). Fails c.in_err-value.field-0.0 r)
    (no_let c.args.level.pass c.args.level.left c.args.tail c.args.ahead.now c.requires.no_let)
    c.in_err-value.ensures in
    rw (e.1, e.2) (made_stops run_of (placed_at place p) c.args.ahead.now c.in_err-value.field-0.0
    (placed_stops p c.in_ok-span.span c.args.ahead.now c.in_err-value.field-0.0 c.in_ok-span.ensures h))

pub returns : goal.returns
returns g c =
    let p = inside other_expr_at c.args.level.pass c.args.level.left c.args.tail in
    let h : p c.args.ahead.now ≡ got (tree_of c.in_ok-value.value) c.in_ok-value.rest.now =
    rw (no_let c.args.level.pass c.args.level.left c.args.tail c.args.ahead.now c.requires.no_let) at
    c.in_ok-value.ensures in
    rw (placed_got p c.in_ok-span.span c.args.ahead.now (tree_of c.in_ok-value.value) c.in_ok-value.rest.now
    c.in_ok-span.ensures h) refl
