-- The own nodes, and then the walk.
use Rattle.std.proofs.Common.{refl}
use Rattle.qtt_implicit.specs.Filled.{item_nodes}
use Rattle.qtt_implicit.specs.Filling.{◌>>=◌}
use Rattle.qtt_implicit.specs.Items.{item_tree}
use Rattle.qtt_implicit.proofs.Growth.{grows_at, grows_exits}
use Rattle.qtt_implicit.proofs.Solved.{stop_goes_on}
use Rattle.qtt_implicit.proofs.Steps.{goes_after}
use Rattle.qtt_implicit.proofs.filling.families.Tools.counted.Goals as goal

pub returns-in_err-put : goal.returns-in_err-put
unfolding ◌>>=◌
returns-in_err-put c =
    let N = item_nodes (item_tree c.args.item) in (
      0,
      grows_exits _ _ _ _ _ _ _ c.from_residual.ensures.1
          (stop_goes_on _ _ _ (c.in_err-put.ensures N c.item_nodes.ensures)),
    )

pub returns : goal.returns
unfolding ◌>>=◌
returns c =
    let N = item_nodes (item_tree c.args.item) in (
      c.item.new.left.nodes,
      grows_at _ _ _ _ _ (goes_after _ (c.in_ok-put.ensures N c.item_nodes.ensures) refl)
          c.item.ensures,
    )
