use Rattle.std.proofs.Common.{◌≡◌, ◌∙◌, ℕ, true, length, sym, subst, arith}
use Rattle.qtt_base.specs.declared.limits.Quantity.TheVariants as quantity
use Rattle.qtt_phrase.specs.Reading.Kind.{unexpected}
use Rattle.qtt_grammar.specs.Classes.{starts_item}
use Rattle.qtt_grammar.specs.Grammar.{of}
use Rattle.qtt_grammar.specs.Limits.{is_full}
use Rattle.qtt_grammar.specs.Readers.{item_at}
use Rattle.qtt_grammar.specs.View.{within, place_of}
use Rattle.qtt_syntax.specs.Tree.{Item}
use Rattle.qtt_grammar.proofs.Caps.{full_stops}
use Rattle.qtt_grammar.proofs.text.another_item.Goals as goal

pub returns-then-is_full : goal.returns-then-is_full
returns-then-is_full c =
    let k : c.len.result ≡ length c.args.body.now.items.items =
    c.len.ensures ∙ omega (arith, c.args.body.now.items.ok.0) in
    full_stops Item c.args.level.pass quantity.Items (of starts_item) (λ _. unexpected)
    (within item_at c.args.level.pass c.args.level.left (place_of c.args.body.now))
    (length c.args.body.now.items.items) c.args.ahead.now c.no_item.result
    (subst (λ (m : ℕ). is_full c.args.level.pass quantity.Items m ≡ true) k (sym c.if-is_full.ensures))
    c.no_item.ensures
