use Rattle.std.proofs.Common.{sym}
use Rattle.qtt_syntax.specs.Tree.{Item}
use Rattle.qtt_grammar.proofs.Caps.{next_con_full}
use Rattle.qtt_grammar.proofs.item.next_con.Goals as goal

pub returns-then-is_full : goal.returns-then-is_full
returns-then-is_full c = next_con_full Item c.args.level.pass c.args.level.left c.args.count c.args.ahead.now
    c.in_ok-rest.field-0-0 c.in_ok-rest.rest.now c.no_more.result c.in_ok-rest.ensures
    (sym c.if-is_full.ensures) c.no_more.ensures
