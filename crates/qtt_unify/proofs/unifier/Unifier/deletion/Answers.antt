use Rattle.std.proofs.Common.{refl}
use Rattle.qtt_unify.specs.View.{scrutinee}
use Rattle.qtt_unify.proofs.Deleting.{no-points}
use Rattle.qtt_unify.proofs.unifier.Unifier.deletion.Goals as goal
use Rattle.qtt_unify.proofs.unifier.Unifier.deletion.Goals.{then-params-ne2-via-then-params-ne2, then-params-ne2-via-else-params-ne2+then-indices-ne1}

pub returns-then-params-ne2 : goal.returns-then-params-ne2
returns-then-params-ne2 g c =
    let S = c.args.scrutinee.now in
    no-points c.args.family (scrutinee S) S.params.now S.indices.now refl refl (λ a b.
    elim c.then-params-ne2.branch [
      | then-params-ne2-via-then-params-ne2 w ↦ w.if-params-ne2.true a
      | then-params-ne2-via-else-params-ne2+then-indices-ne1 w ↦ w.if-indices-ne1.true b
    ])
