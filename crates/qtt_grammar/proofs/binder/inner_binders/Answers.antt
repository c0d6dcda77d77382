use Rattle.std.proofs.Common.{map, sym, subst}
use Rattle.qtt_phrase.specs.Reading.{many_at, making_at, then_at}
use Rattle.qtt_syntax.specs.Tree.{Binder}
use Rattle.qtt_syntax.specs.View.{binder_of}
use Rattle.qtt_grammar.specs.declared.level.Level.{Level}
use Rattle.qtt_grammar.specs.Classes.{starts_binder}
use Rattle.qtt_grammar.specs.Grammar.{of}
use Rattle.qtt_grammar.specs.Readers.{Reads, binder_at}
use Rattle.qtt_grammar.specs.View.{Answers, inside, both}
use Rattle.qtt_grammar.proofs.Below.{binder_is}
use Rattle.qtt_grammar.proofs.binder.inner_binders.Goals as goal

pub returns : goal.returns
returns g c =
    subst
    (λ (b : Reads Binder).
    Answers (λ v. map binder_of v.items) c.some_binders.result
    (making_at both (then_at b (many_at (of starts_binder) b)) c.args.ahead.now))
    (sym (binder_is c.args.level.pass c.args.level.left c.requires.may))
    (subst
    (λ (l : Level).
    Answers (λ v. map binder_of v.items) c.some_binders.result
    (making_at both (then_at (inside binder_at l.pass l.left)
    (many_at (of starts_binder) (inside binder_at l.pass l.left))) c.args.ahead.now))
    c.below.ensures c.some_binders.ensures)
