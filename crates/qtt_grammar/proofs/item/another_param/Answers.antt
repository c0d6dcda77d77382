use Rattle.std.proofs.Common.{sym}
use Rattle.qtt_base.specs.declared.limits.Quantity.TheVariants as quantity
use Rattle.qtt_phrase.specs.Reading.Kind.{unexpected}
use Rattle.qtt_grammar.specs.Classes.{is_left_paren}
use Rattle.qtt_grammar.specs.Grammar.{of}
use Rattle.qtt_grammar.specs.Readers.{param_at}
use Rattle.qtt_grammar.specs.View.{within}
use Rattle.qtt_syntax.specs.Tree.{Item}
use Rattle.qtt_grammar.proofs.Caps.{full_stops}
use Rattle.qtt_grammar.proofs.item.another_param.Goals as goal

pub returns-then-is_full : goal.returns-then-is_full
returns-then-is_full c = full_stops Item c.args.level.pass quantity.Parts (of is_left_paren) (λ _. unexpected)
    (within param_at c.args.level.pass c.args.level.left) c.args.count c.args.ahead.now c.no_more.result
    (sym c.if-is_full.ensures) c.no_more.ensures
