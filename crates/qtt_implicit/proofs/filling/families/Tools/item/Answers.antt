-- Each form of an item.
use Rattle.std.proofs.Common.{◌∙◌, ap, sym, []}
use Rattle.qtt_implicit.specs.Filled.{walk_item}
use Rattle.qtt_implicit.specs.Items.{clause_tree, item_tree}
use Rattle.qtt_implicit.specs.Known.{Known}
use Rattle.qtt_implicit.specs.KnownItems.{known_of}
use Rattle.qtt_implicit.specs.declared.filling.items.ItemNode.{ItemNode}
use Rattle.qtt_implicit.proofs.Growth.{grows_exits, none_added}
use Rattle.qtt_implicit.proofs.Steps.{stop_at}
use Rattle.qtt_implicit.proofs.filling.families.Tools.item.Goals as goal

pub returns-in_err-family-in-Family : goal.returns-in_err-family-in-Family
returns-in_err-family-in-Family c =
    let K = known_of c.args.known.now in
    let left = c.args.left.now.nodes in
    grows_exits _ _ _ _ _ _ _ c.from_residual.ensures.1
    (stop_at _ (ap (λ (i : ItemNode). walk_item K (item_tree i) left) c.in-Family.is) c.in_err-family-in-Family.ensures)

pub returns-in_err-signature-in-Signature : goal.returns-in_err-signature-in-Signature
returns-in_err-signature-in-Signature c =
    let K = known_of c.args.known.now in
    let left = c.args.left.now.nodes in
    grows_exits _ _ _ _ _ _ _ c.from_residual-in_err-signature-in-Signature.ensures.1
    (stop_at _ (ap (λ (i : ItemNode). walk_item K (item_tree i) left) c.in-Signature.is)
    c.in_err-signature-in-Signature.ensures)

pub returns-in_err-clause-in-Clause : goal.returns-in_err-clause-in-Clause
returns-in_err-clause-in-Clause c =
    let K = known_of c.args.known.now in
    let left = c.args.left.now.nodes in
    grows_exits _ _ _ _ _ _ _ c.from_residual-in_err-clause-in-Clause.ensures.1
    (stop_at _ (ap (λ (i : ItemNode). walk_item K (item_tree i) left) c.in-Clause.is
    ∙ ap (λ (k : Known). walk_item k (clause_tree c.in-Clause.clause) left) (sym c.walk.ensures))
    c.in_err-clause-in-Clause.ensures)

pub returns-in_ok-family-in-Family : goal.returns-in_ok-family-in-Family
returns-in_ok-family-in-Family c =
    let K = known_of c.args.known.now in
    let left = c.args.left.now.nodes in
    let h = c.in_ok-family-in-Family.ensures in
    (h.0, ap (λ (i : ItemNode). walk_item K (item_tree i) left) c.in-Family.is ∙ h.1, h.2)

pub returns-in_ok-signature-in-Signature : goal.returns-in_ok-signature-in-Signature
returns-in_ok-signature-in-Signature c =
    let K = known_of c.args.known.now in
    let left = c.args.left.now.nodes in
    let h = c.in_ok-signature-in-Signature.ensures in
    (h.0, ap (λ (i : ItemNode). walk_item K (item_tree i) left) c.in-Signature.is ∙ h.1, h.2)

pub returns-in_ok-clause-in-Clause : goal.returns-in_ok-clause-in-Clause
returns-in_ok-clause-in-Clause c =
    let K = known_of c.args.known.now in
    let left = c.args.left.now.nodes in (
      [],
      ap (λ (i : ItemNode). walk_item K (item_tree i) left) c.in-Clause.is
          ∙ ap (λ (k : Known). walk_item k (clause_tree c.in-Clause.clause) left) (sym c.walk.ensures)
          ∙ c.in_ok-clause-in-Clause.ensures,
      none_added K,
    )
