use Rattle.std.proofs.Common.{◌∙◌, map, ap}
use Rattle.std.proofs.lemmas.List.{take_all}
use Rattle.qtt_split.specs.Branch.{moved_column}
use Rattle.qtt_split.specs.Columns.{column_of}
use Rattle.qtt_split.specs.Substitution.{stands_for}
use Rattle.qtt_split.proofs.Noded.{map-along}
use Rattle.qtt_split.proofs.node.moved_columns.Goals as goal

pub returns : goal.returns
returns c =
    let f = moved_column (stands_for c.args.stands.now) in
    c.loop-column.invariant ∙
    ap (λ xs. map (λ x. f (column_of x)) xs)
    (take_all c.loop-column.column-index c.args.columns.now c.loop-column-test.false) ∙
    map-along f column_of c.args.columns.now
