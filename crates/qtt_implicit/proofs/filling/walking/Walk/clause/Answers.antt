-- The signature of a clause's definition, and its patterns with those that are put in.
use Rattle.std.proofs.Common.{◌∙◌, ap, sym}
use Rattle.qtt_names.specs.Exports.{Sig}
use Rattle.qtt_syntax.specs.Tree.{Shapes}
use Rattle.qtt_implicit.specs.Filled.{walk_clause, walk_item}
use Rattle.qtt_implicit.specs.KnownItems.{known_of}
use Rattle.qtt_implicit.specs.Nodes.{node_tree}
use Rattle.qtt_implicit.specs.Patterns.{clause_shapes, shape_list}
use Rattle.qtt_implicit.specs.Shaping.{shape_row}
use Rattle.qtt_implicit.specs.Signatures.{signature_of}
use Rattle.qtt_implicit.proofs.Steps.{meets_at}
use Rattle.qtt_implicit.proofs.filling.walking.Walk.clause.Goals as goal

pub returns : goal.returns
unfolding walk_item
returns c =
    let K = known_of c.args.self.now.known.now in
    let left = c.args.left.now.nodes in
    let text = c.args.source.source.now in
    let ps = shape_list (shape_row c.args.source.patterns.now) in
    let side = node_tree c.args.source.side.now in
    meets_at _ _ _ (
    ap (λ (S : Sig). walk_clause K S text.name (clause_shapes K S.braces text.span ps) side text.span left)
    (sym c.in_ok-sig.ensures)
    ∙ ap (λ (row : Shapes). walk_clause K (signature_of c.in_ok-sig.sig) text.name row side text.span left)
    (sym c.in_ok-patterns.ensures)
    ) c.slotted_clause.ensures
