use Rattle.std.proofs.Common.{map, rules}
use Rattle.std.proofs.lemmas.Result.{err_from_is_err_and}
use Rattle.qtt_syntax.specs.View.{tree_of, argument_of}
use Rattle.qtt_grammar.proofs.Applied.{other_stops, other_got}
use Rattle.qtt_grammar.proofs.application.other_app.Goals as goal

pub returns-in_err-arguments : goal.returns-in_err-arguments
returns-in_err-arguments g c =
    let e = err_from_is_err_and c.from_residual-in_err-arguments.result c.from_residual-in_err-arguments.ensures.1 in
    rw (e.1, e.2) (other_stops c.args.level.pass c.args.level.left c.in_ok-span.span
    (tree_of c.in_ok-function.function) c.in_ok-function.rest.now c.args.ahead.now
    (map argument_of c.new.result.items) c.in_err-arguments.field-0.0 c.in_ok-span.ensures
    c.in_ok-function.ensures c.in_err-arguments.ensures)

pub returns : goal.returns
returns g c = other_got c.args.level.pass c.args.level.left c.in_ok-span.span (tree_of c.in_ok-function.function)
    c.in_ok-function.rest.now c.args.ahead.now (map argument_of c.new.result.items)
    (map argument_of c.in_ok-arguments.arguments.items) c.in_ok-arguments.rest.now
    (tree_of c.in_ok-applied.field-0) (search rules) c.in_ok-span.ensures c.in_ok-function.ensures
    c.in_ok-arguments.ensures c.in_ok-applied.ensures
