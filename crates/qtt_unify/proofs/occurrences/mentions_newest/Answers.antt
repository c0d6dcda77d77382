use Rattle.std.proofs.Common.{◌≡◌, false, sym, ap, ◌∙◌, rules}
use Rattle.qtt_term.specs.Reading.{occurrences}
use Rattle.qtt_term.specs.View.{term}
use Rattle.qtt_unify.specs.Frequency.{how_often, is_never}
use Rattle.qtt_unify.proofs.Counted.{newest-found}
use Rattle.qtt_unify.proofs.occurrences.mentions_newest.Goals as goal

pub returns-then-not-is_never : goal.returns-then-not-is_never
returns-then-not-is_never c =
    let never : is_never (how_often (occurrences c.loop-variable.variable (term c.args.source.now))) ≡ false =
    ap is_never (sym c.in_ok-occurrences.ensures) ∙ search rules in
    newest-found c.loop-variable.variable c.args.count (term c.args.source.now) c.loop-variable-test.true never
