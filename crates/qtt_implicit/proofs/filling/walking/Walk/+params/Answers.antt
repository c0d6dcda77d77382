-- The parameters in turn, each behind those before it.
use Rattle.std.proofs.Common.{◌∙◌, ap, sym, List}
use Rattle.qtt_syntax.specs.Tree.{Param}
use Rattle.qtt_implicit.specs.Filled.{Params, walk_params}
use Rattle.qtt_implicit.specs.Filling.{◌>>=◌}
use Rattle.qtt_implicit.specs.Items.{param_row}
use Rattle.qtt_implicit.specs.KnownItems.{known_of}
use Rattle.qtt_implicit.specs.TextTypes.{local_types}
use Rattle.qtt_implicit.specs.Walk.{Types}
use Rattle.qtt_implicit.specs.declared.filling.signatures.ParamRow.{ParamRow}
use Rattle.qtt_implicit.proofs.Solved.{stop_goes_on}
use Rattle.qtt_implicit.proofs.Steps.{done_at, exits, goes_after, stop_at, stops_after}
use Rattle.qtt_implicit.proofs.filling.walking.Walk.+params.Goals as goal

abbrev params : Types → List Param → Params
params Γ ps = record { params = ps; types = Γ }

pub returns-in_err-ty-in-More : goal.returns-in_err-ty-in-More
unfolding ◌>>=◌
returns-in_err-ty-in-More t c =
    let K = known_of c.args.self.now.known.now in
    let Γ = local_types c.args.locals.now in
    let left = c.args.left.now.nodes in
    exits _ _ _ _ _ c.from_residual.ensures.1
    (stop_at _ (ap (λ (r : ParamRow). walk_params K Γ (param_row r) left) c.in-More.is)
    (stop_goes_on _ _ _ c.in_err-ty-in-More.ensures))

pub returns-in_err-others-in-More : goal.returns-in_err-others-in-More
unfolding ◌>>=◌
returns-in_err-others-in-More t c =
    let K = known_of c.args.self.now.known.now in
    let Γ = local_types c.args.locals.now in
    let left = c.args.left.now.nodes in
    exits _ _ _ _ _ c.from_residual-in_err-others-in-More.ensures.1
    (stop_at _ (ap (λ (r : ParamRow). walk_params K Γ (param_row r) left) c.in-More.is)
    (stops_after _ _ c.in_ok-ty-in-More.ensures (stop_goes_on _ _ _
    (stop_at _ (ap (λ (g : Types). walk_params K g (param_row c.in-More.others.now) c.node.new.left.nodes)
    (sym c.in_ok-inner-in-More.ensures)) c.in_err-others-in-More.ensures))))

pub returns-in_ok-placed-in-More : goal.returns-in_ok-placed-in-More
unfolding ◌>>=◌
returns-in_ok-placed-in-More t c =
    let K = known_of c.args.self.now.known.now in
    let Γ = local_types c.args.locals.now in
    let left = c.args.left.now.nodes in
    ap (λ (r : ParamRow). walk_params K Γ (param_row r) left) c.in-More.is
    ∙ goes_after _ c.in_ok-ty-in-More.ensures (goes_after _
    (ap (λ (g : Types). walk_params K g (param_row c.in-More.others.now) c.node.new.left.nodes)
    (sym c.in_ok-inner-in-More.ensures) ∙ c.in_ok-others-in-More.ensures)
    (done_at (ap (params (local_types c.in_ok-others-in-More.others.locals.now))
    (ap param_row c.in_ok-placed-in-More.ensures))))
