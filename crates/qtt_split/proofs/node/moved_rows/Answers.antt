use Rattle.std.proofs.Common.{◌∙◌, map, ap}
use Rattle.std.proofs.lemmas.List.{take_all}
use Rattle.qtt_split.specs.Branch.{moved_row}
use Rattle.qtt_split.specs.Columns.{row_of}
use Rattle.qtt_split.specs.Substitution.{stands_for}
use Rattle.qtt_split.proofs.Noded.{map-along}
use Rattle.qtt_split.proofs.node.moved_rows.Goals as goal

pub returns : goal.returns
returns c =
    let f = moved_row (stands_for c.args.stands.now) in
    c.loop-row.invariant ∙
    ap (λ xs. map (λ x. f (row_of x)) xs) (take_all c.loop-row.row-index c.args.rows.now c.loop-row-test.false) ∙
    map-along f row_of c.args.rows.now
