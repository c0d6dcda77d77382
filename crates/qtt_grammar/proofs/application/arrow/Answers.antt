use Rattle.std.specs.Prelude.{option_map}
use Rattle.qtt_syntax.specs.View.{tree_of}
use Rattle.qtt_grammar.proofs.Applied.{arrow_got}
use Rattle.qtt_grammar.proofs.application.arrow.Goals as goal

pub returns : goal.returns
returns g c = arrow_got c.args.level.pass c.args.level.left c.in_ok-span.span
    (tree_of c.in_ok-domain.domain) c.in_ok-domain.rest.now c.args.ahead.now
    (option_map tree_of c.in_ok-codomain.codomain) c.in_ok-codomain.rest.now (tree_of c.in_ok-arrow_type.field-0)
    c.in_ok-span.ensures c.in_ok-domain.ensures c.in_ok-codomain.ensures c.in_ok-arrow_type.ensures
