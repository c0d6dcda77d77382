-- An application stands for one.
use Rattle.std.proofs.Common.{◌∙◌, ap, sym}
use mathlib.Core.Path.{ap₂}
use Rattle.qtt_syntax.specs.Tree.Tree.{apply}
use Rattle.qtt_implicit.specs.Nodes.{argument_row, node_tree}
use Rattle.qtt_implicit.specs.TextTypes.{tree_in}
use Rattle.qtt_implicit.proofs.filling.text_type.TextType.application.Goals as goal

pub returns-in-Apply : goal.returns-in-Apply
returns-in-Apply c =
    let s = c.in_ok-text.text.shared in
    sym c.in_ok-text.ensures.0
    ∙ ap (λ n. tree_in s (node_tree n)) c.in-Apply.is
    ∙ ap₂ (λ x y. apply x y c.in-Apply.span) (sym c.at.ensures.tree)
    (sym (c.at.ensures.arguments (argument_row c.in-Apply.arguments.now)))
