-- The parts of a family in turn, and the own items that it adds.
use Rattle.std.proofs.Common.{◌∙◌, ap, refl, sym, [], ◌∷◌, map}
use Rattle.qtt_names.specs.Exports.{Sig}
use Rattle.qtt_implicit.specs.Filled.{family_sig, own_con, walk_item, with_own}
use Rattle.qtt_implicit.specs.Filling.{◌>>=◌}
use Rattle.qtt_implicit.specs.Items.{con_row, param_row}
use Rattle.qtt_implicit.specs.KnownItems.{known_of}
use Rattle.qtt_implicit.specs.Nodes.{node_tree}
use Rattle.qtt_implicit.specs.TextTypes.{local_types}
use Rattle.qtt_implicit.proofs.Growth.{all_added, grows_exits, same_cons, same_params}
use Rattle.qtt_implicit.proofs.Sights.{same_walk_of}
use Rattle.qtt_implicit.proofs.Solved.{stop_goes_on}
use Rattle.qtt_implicit.proofs.Steps.{goes_after, stop_at, stops_after}
use Rattle.qtt_implicit.proofs.filling.families.Tools.family.Goals as goal

pub returns-in_err-params : goal.returns-in_err-params
unfolding ◌>>=◌ walk_item
returns-in_err-params c =
    let params = same_params (param_row c.args.source.params.now) c.args.left.now.nodes c.walk.ensures
    (ap local_types c.in_ok-none.ensures) in
    grows_exits _ _ _ _ _ _ _ c.from_residual-in_err-params.ensures.1
    (stop_goes_on _ _ _ (stop_at _ (sym params) c.in_err-params.ensures))

pub returns-in_err-ty : goal.returns-in_err-ty
unfolding ◌>>=◌ walk_item
returns-in_err-ty c =
    let params = same_params (param_row c.args.source.params.now) c.args.left.now.nodes c.walk.ensures
    (ap local_types c.in_ok-none.ensures) in
    let ty = same_walk_of (node_tree c.args.source.ty.now) c.params.new.left.nodes c.walk-2.ensures
    (refl {a = local_types c.in_ok-params.params.locals.now}) in
    grows_exits _ _ _ _ _ _ _ c.from_residual-in_err-ty.ensures.1
    (stops_after _ _ (sym params ∙ c.in_ok-params.ensures)
    (stop_goes_on _ _ _ (stop_at _ (sym ty) c.in_err-ty.ensures)))

pub returns-in_err-constructors : goal.returns-in_err-constructors
unfolding ◌>>=◌ walk_item
returns-in_err-constructors c =
    let K = known_of c.args.known.now in
    let n = c.args.source.source.now.name in
    let params = same_params (param_row c.args.source.params.now) c.args.left.now.nodes c.walk.ensures
    (ap local_types c.in_ok-none.ensures) in
    let ty = same_walk_of (node_tree c.args.source.ty.now) c.params.new.left.nodes c.walk-2.ensures
    (refl {a = local_types c.in_ok-params.params.locals.now}) in
    let pushed = c.in_ok-push.ensures ∙ ap (λ (S : Sig). with_own ((n, S) ∷ []) K) c.in_ok-family_sig.ensures in
    let cons = same_cons (con_row c.args.source.constructors.now) (local_types c.in_ok-params.params.locals.now)
    c.node.new.left.nodes (c.walk-3.ensures ∙ pushed) in
    grows_exits _ _ _ _ _ _ _ c.from_residual-in_err-constructors.ensures.1
    (stops_after _ _ (sym params ∙ c.in_ok-params.ensures)
    (stops_after _ _ (sym ty ∙ c.in_ok-ty.ensures)
    (stop_goes_on _ _ _ (stop_at _ (sym cons) c.in_err-constructors.ensures))))

pub returns : goal.returns
unfolding ◌>>=◌ walk_item
returns c =
    let K = known_of c.args.known.now in
    let n = c.args.source.source.now.name in
    let PS = param_row c.in_ok-params.params.params.now in
    let FS = family_sig PS (node_tree c.in_ok-ty.ty.tree.now) in
    let more = map (own_con PS) (con_row c.in_ok-constructors.constructors.now) in
    let params = same_params (param_row c.args.source.params.now) c.args.left.now.nodes c.walk.ensures
    (ap local_types c.in_ok-none.ensures) in
    let ty = same_walk_of (node_tree c.args.source.ty.now) c.params.new.left.nodes c.walk-2.ensures
    (refl {a = local_types c.in_ok-params.params.locals.now}) in
    let pushed = c.in_ok-push.ensures ∙ ap (λ (S : Sig). with_own ((n, S) ∷ []) K) c.in_ok-family_sig.ensures in
    let cons = same_cons (con_row c.args.source.constructors.now) (local_types c.in_ok-params.params.locals.now)
    c.node.new.left.nodes (c.walk-3.ensures ∙ pushed) in (
      (n, FS) ∷ more,
      goes_after _ (sym params ∙ c.in_ok-params.ensures) (goes_after _ (sym ty ∙ c.in_ok-ty.ensures)
          (goes_after _ (sym cons ∙ c.in_ok-constructors.ensures) refl)),
      c.in_ok-push_constructors.ensures ∙ ap (with_own more) pushed ∙ all_added ((n, FS) ∷ []) more K,
    )
