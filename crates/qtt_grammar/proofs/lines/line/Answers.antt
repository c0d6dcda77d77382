use Rattle.std.proofs.Common.{sym, subst}
use Rattle.std.specs.Prelude.{nat_lt}
use Rattle.qtt_base.specs.declared.limits.Quantity.TheVariants as quantity
use Rattle.qtt_syntax.specs.Tree as tree
use Rattle.qtt_phrase.specs.Reading.{cap_at}
use Rattle.qtt_grammar.specs.declared.level.Level.{Level}
use Rattle.qtt_grammar.specs.Limits.{one_above}
use Rattle.qtt_grammar.specs.Readers.{statement_starts, bad_start}
use Rattle.qtt_grammar.specs.View.{Fails}
use Rattle.qtt_grammar.proofs.Statements.{line_full}
use Rattle.qtt_grammar.proofs.lines.line.Goals as goal

pub returns-then-is_full : goal.returns-then-is_full
returns-then-is_full g c =
    line_full c.args.level.pass c.args.level.left c.args.tail c.args.count c.args.standing c.args.ahead.now
    c.in_ok-rest.field-0-0 c.in_ok-rest.rest.now c.no_more.result c.requires.may c.in_ok-rest.ensures
    (sym c.if-is_full.ensures)
    (subst (λ (l : Level). Fails {A = tree.Statement} c.no_more.result
    (cap_at (λ x. statement_starts (nat_lt 0 l.left) c.args.tail x.class)
    (λ x. bad_start (nat_lt 0 l.left) x.class) (λ x. one_above quantity.Statements x.place)
    c.in_ok-rest.rest.now)) c.below.ensures c.no_more.ensures)
