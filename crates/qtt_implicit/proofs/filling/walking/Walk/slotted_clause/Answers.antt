-- The patterns of a clause, and then its right side behind them.
use Rattle.std.proofs.Common.{◌∙◌, ap, refl, sym}
use Rattle.qtt_implicit.specs.Filling.{◌>>=◌}
use Rattle.qtt_implicit.specs.KnownItems.{known_of}
use Rattle.qtt_implicit.specs.Patterns.{none_met}
use Rattle.qtt_implicit.proofs.Sights.{same_shapes, same_walk}
use Rattle.qtt_implicit.proofs.Solved.{stop_goes_on}
use Rattle.qtt_implicit.proofs.Steps.{exits, goes_after, stop_at, stops_after}
use Rattle.qtt_implicit.proofs.filling.walking.Walk.slotted_clause.Goals as goal

pub returns-in_err-seen : goal.returns-in_err-seen
unfolding ◌>>=◌
returns-in_err-seen c =
    let K = known_of c.args.self.now.known.now in
    let left = c.args.left.now.nodes in
    let q = c.in_ok-equation.ensures in
    let patterns = same_shapes K left (c.in_ok-met.ensures ∙ ap none_met q.variables) c.in_ok-columns.ensures
    q.patterns in
    exits _ _ _ _ _ c.from_residual-in_err-seen.ensures.1
    (stop_goes_on _ _ _ (stop_at _ (sym patterns) c.in_err-seen.ensures))

pub returns-in_err-side : goal.returns-in_err-side
unfolding ◌>>=◌
returns-in_err-side c =
    let K = known_of c.args.self.now.known.now in
    let left = c.args.left.now.nodes in
    let q = c.in_ok-equation.ensures in
    let patterns = same_shapes K left (c.in_ok-met.ensures ∙ ap none_met q.variables) c.in_ok-columns.ensures
    q.patterns in
    let side = same_walk K c.shapes.new.left.nodes c.in_ok-locals.ensures q.side_is in
    exits _ _ _ _ _ c.from_residual-in_err-side.ensures.1
    (stops_after _ _ (sym patterns ∙ c.in_ok-seen.ensures)
    (stop_goes_on _ _ _ (stop_at _ (sym side) c.in_err-side.ensures)))

pub returns : goal.returns
unfolding ◌>>=◌
returns c =
    let K = known_of c.args.self.now.known.now in
    let left = c.args.left.now.nodes in
    let q = c.in_ok-equation.ensures in
    let patterns = same_shapes K left (c.in_ok-met.ensures ∙ ap none_met q.variables) c.in_ok-columns.ensures
    q.patterns in
    let side = same_walk K c.shapes.new.left.nodes c.in_ok-locals.ensures q.side_is in
    goes_after _ (sym patterns ∙ c.in_ok-seen.ensures) (goes_after _ (sym side ∙ c.in_ok-side.ensures) refl)
