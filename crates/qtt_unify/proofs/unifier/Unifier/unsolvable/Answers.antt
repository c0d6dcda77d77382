use Rattle.std.proofs.Common.{sym, ◌∙◌, arith}
use Rattle.qtt_unify.proofs.Walks.{one-passed}
use Rattle.qtt_unify.proofs.unifier.Unifier.unsolvable.Goals as goal

pub loop-place-preserved : goal.loop-place-preserved
loop-place-preserved g c =
    one-passed c.args.scrutinee.now.targets.now c.args.scrutinee.now.indices.now c.args.results.now c.loop-place.place
    c.target-item.result c.loop-place-test.true (omega arith) (omega arith) c.target-item.is
    (sym c.if-not-branch.false ∙ c.in_ok-is_solvable.ensures) c.loop-place.invariant
