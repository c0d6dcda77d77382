-- The constructors in turn.
use Rattle.std.proofs.Common.{◌∙◌, ap}
use Rattle.qtt_implicit.specs.Filled.{walk_cons}
use Rattle.qtt_implicit.specs.Filling.{◌>>=◌}
use Rattle.qtt_implicit.specs.Items.{con_row}
use Rattle.qtt_implicit.specs.KnownItems.{known_of}
use Rattle.qtt_implicit.specs.TextTypes.{local_types}
use Rattle.qtt_implicit.specs.declared.filling.signatures.ConRow.{ConRow}
use Rattle.qtt_implicit.proofs.Solved.{stop_goes_on}
use Rattle.qtt_implicit.proofs.Steps.{done_at, exits, goes_after, stop_at, stops_after}
use Rattle.qtt_implicit.proofs.filling.walking.Walk.+constructors.Goals as goal

pub returns-in_err-ty-in-More : goal.returns-in_err-ty-in-More
unfolding ◌>>=◌
returns-in_err-ty-in-More t c =
    let K = known_of c.args.self.now.known.now in
    let Γ = local_types c.args.locals.now in
    let left = c.args.left.now.nodes in
    exits _ _ _ _ _ c.from_residual.ensures.1
    (stop_at _ (ap (λ (r : ConRow). walk_cons K Γ (con_row r) left) c.in-More.is)
    (stop_goes_on _ _ _ c.in_err-ty-in-More.ensures))

pub returns-in_err-others-in-More : goal.returns-in_err-others-in-More
unfolding ◌>>=◌
returns-in_err-others-in-More t c =
    let K = known_of c.args.self.now.known.now in
    let Γ = local_types c.args.locals.now in
    let left = c.args.left.now.nodes in
    exits _ _ _ _ _ c.from_residual-in_err-others-in-More.ensures.1
    (stop_at _ (ap (λ (r : ConRow). walk_cons K Γ (con_row r) left) c.in-More.is)
    (stops_after _ _ c.in_ok-ty-in-More.ensures (stop_goes_on _ _ _ c.in_err-others-in-More.ensures)))

pub returns-in_ok-placed-in-More : goal.returns-in_ok-placed-in-More
unfolding ◌>>=◌
returns-in_ok-placed-in-More t c =
    let K = known_of c.args.self.now.known.now in
    let Γ = local_types c.args.locals.now in
    let left = c.args.left.now.nodes in
    ap (λ (r : ConRow). walk_cons K Γ (con_row r) left) c.in-More.is
    ∙ goes_after _ c.in_ok-ty-in-More.ensures (goes_after _ c.in_ok-others-in-More.ensures
    (done_at (ap con_row c.in_ok-placed-in-More.ensures)))
