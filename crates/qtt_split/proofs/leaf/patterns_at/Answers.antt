use Rattle.std.proofs.Common.{◌∙◌, map, ap, sym}
use Rattle.qtt_syntax.specs.declared.module.Clause.{Clause}
use Rattle.qtt_syntax.specs.View.{shape_of}
use Rattle.qtt_split.proofs.Told.{clause-there, no-clause}
use Rattle.qtt_split.proofs.leaf.patterns_at.Goals as goal

pub returns-then-place-clauses : goal.returns-then-place-clauses
returns-then-place-clauses c =
    ap (map shape_of) c.deref.ensures.value ∙
    ap (λ (x : Clause). map shape_of x.patterns.items) (sym c.index-clauses-place.is) ∙
    clause-there c.args.clauses.now c.args.clause c.index-clauses-place.result c.if-place-clauses.true
    c.index-clauses-place.is

pub returns-else-place-clauses : goal.returns-else-place-clauses
returns-else-place-clauses c = no-clause c.args.clauses.now c.args.clause c.if-place-clauses.false
