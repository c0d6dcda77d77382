use Rattle.std.proofs.Common.{map}
use Rattle.std.proofs.lemmas.Result.{err_from_is_err_and}
use Rattle.qtt_syntax.specs.View.{tree_of, argument_of}
use Rattle.qtt_grammar.proofs.Applied.{named_stops, named_got}
use Rattle.qtt_grammar.proofs.application.named_app.Goals as goal

pub returns-in_err-arguments : goal.returns-in_err-arguments
returns-in_err-arguments g c =
    let e = err_from_is_err_and c.from_residual-in_err-arguments.result c.from_residual-in_err-arguments.ensures.1 in
    rw (e.1, e.2) (named_stops c.args.level.pass c.args.level.left c.args.ahead.now c.in_ok-name.name
    c.in_ok-name.rest.now (map argument_of c.in_ok-found.found.items) c.in_ok-found.rest.now
    c.in_err-arguments.field-0.0 c.in_ok-name.ensures c.in_ok-found.ensures c.in_err-arguments.ensures)

pub returns : goal.returns
returns g c = named_got c.args.level.pass c.args.level.left c.args.ahead.now c.in_ok-name.name
    c.in_ok-name.rest.now (map argument_of c.in_ok-found.found.items) c.in_ok-found.rest.now
    (map argument_of c.in_ok-arguments.arguments.items) c.in_ok-arguments.rest.now
    (tree_of c.in_ok-applied.field-0) c.in_ok-name.ensures c.in_ok-found.ensures c.in_ok-arguments.ensures
    c.in_ok-applied.ensures
