-- The application with its arguments.
use Rattle.std.proofs.Common.{◌∙◌, ◌++◌, ap, map, take}
use Rattle.qtt_syntax.specs.Tree.{Tree}
use Rattle.qtt_implicit.specs.Nodes.{argument_row, node_tree}
use Rattle.qtt_implicit.specs.Signatures.{signature_of}
use Rattle.qtt_implicit.specs.Solving.{in_front, names_in_braces, solved}
use Rattle.qtt_implicit.specs.TextTypes.{given_list, open_list, type_tree}
use Rattle.qtt_implicit.specs.Walk.{application, binder_names, given_argument, not_in_braces, walked}
use Rattle.qtt_implicit.proofs.Solved.{front_of_row}
use Rattle.qtt_implicit.proofs.filling.signature.Signature.filled.Goals as goal

pub returns : goal.returns
returns c =
    let b = c.args.self.braces in
    let s = c.args.call.name.span in
    let k = c.args.found in
    let OS = take b (open_list c.args.slots) in
    let X = solved s k (names_in_braces (signature_of c.args.self)) OS in
    let Y = map given_argument (not_in_braces (given_list c.args.call.givens.now)) in
    let T = type_tree c.args.judged.ty in
    let row = c.in_ok-row.ensures
    ∙ ap (λ (t : Tree). in_front (solved s k (binder_names b t) OS) (argument_row c.in_ok-written.written.now))
    c.behind_binders-chain.ensures
    ∙ ap (in_front X) c.in_ok-written.ensures
    ∙ front_of_row X Y in
    ap (λ (t : Tree). walked t T) (c.in_ok-application.ensures (X ++ Y) row
    ∙ ap (λ f. application (node_tree f) (X ++ Y) c.args.call.span) c.in_ok-name.ensures)
