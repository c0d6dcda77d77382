use Rattle.std.proofs.Common.{◌≡◌, ◌++◌, map, drop}
use Rattle.qtt_term.specs.View.{term}
use Rattle.qtt_split.specs.Columns.{column_of}
use Rattle.qtt_split.specs.Node.{terms_at}
use Rattle.qtt_split.specs.Parts.{wanted}
use Rattle.qtt_split.proofs.leaf.terms_at.Given as goal

abbrev pub invariant-loop-column : goal.invariant-loop-column
invariant-loop-column l =
    terms_at (wanted l.which) (map column_of l.columns)
    ≡ map (λ t. (term t.0, term t.1)) l.terms.items
    ++ terms_at (wanted l.which) (map column_of (drop l.column-index l.columns))
