-- The type of a signature, and the own item that it adds.
use Rattle.std.proofs.Common.{◌∙◌, ap, refl, sym, [], ◌∷◌}
use Rattle.qtt_names.specs.Exports.{Sig}
use Rattle.qtt_implicit.specs.Filled.{definition_sig, walk_item, with_own}
use Rattle.qtt_implicit.specs.Filling.{◌>>=◌}
use Rattle.qtt_implicit.specs.KnownItems.{known_of}
use Rattle.qtt_implicit.specs.Nodes.{node_tree}
use Rattle.qtt_implicit.specs.TextTypes.{local_types}
use Rattle.qtt_implicit.proofs.Growth.{grows_exits}
use Rattle.qtt_implicit.proofs.Sights.{same_walk_of}
use Rattle.qtt_implicit.proofs.Solved.{stop_goes_on}
use Rattle.qtt_implicit.proofs.Steps.{goes_after, stop_at}
use Rattle.qtt_implicit.proofs.filling.families.Tools.signature.Goals as goal

pub returns-in_err-ty : goal.returns-in_err-ty
unfolding ◌>>=◌ walk_item
returns-in_err-ty c =
    let same = same_walk_of (node_tree c.args.source.ty.now) c.args.left.now.nodes c.walk.ensures
    (ap local_types c.in_ok-none.ensures) in
    grows_exits _ _ _ _ _ _ _ c.from_residual-in_err-ty.ensures.1
    (stop_goes_on _ _ _ (stop_at _ (sym same) c.in_err-ty.ensures))

pub returns : goal.returns
unfolding ◌>>=◌ walk_item
returns c =
    let K = known_of c.args.known.now in
    let n = c.args.source.source.now.name in
    let same = same_walk_of (node_tree c.args.source.ty.now) c.args.left.now.nodes c.walk.ensures
    (ap local_types c.in_ok-none.ensures) in (
      (n, definition_sig (node_tree c.in_ok-ty.ty.tree.now)) ∷ [],
      goes_after _ (sym same ∙ c.in_ok-ty.ensures) refl,
      c.in_ok-push.ensures ∙ ap (λ (S : Sig). with_own ((n, S) ∷ []) K) c.in_ok-definition_sig.ensures,
    )
