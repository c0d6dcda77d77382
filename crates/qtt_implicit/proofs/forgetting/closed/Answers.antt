-- Each name keeps its number.
use Rattle.std.proofs.Common.{◌≡◌, subst, IfOk}
use Rattle.qtt_syntax.specs.Tree.{Tree}
use Rattle.qtt_syntax.specs.View.{tree_of}
use Rattle.qtt_implicit.specs.Forget.{forgotten}
use Rattle.qtt_implicit.specs.Forgetting.{number_of}
use Rattle.qtt_implicit.proofs.RenumberedTrees.{unmoved}
use Rattle.qtt_implicit.proofs.forgetting.closed.Goals as goal

pub returns : goal.returns
returns c =
    subst (λ (t : Tree). IfOk c.expr.result (λ e. tree_of e ≡ t))
    (unmoved (number_of c.kept.result) c.kept.ensures 0 (forgotten (tree_of c.args.source.now))) c.expr.ensures
