-- The only argument.
use Rattle.std.proofs.Common.{◌∙◌, ap, sym, subst}
use Rattle.qtt_syntax.specs.Tree.Tree.{apply}
use Rattle.qtt_syntax.specs.Tree.Argument.{argument}
use Rattle.qtt_syntax.specs.Tree.Arguments.{argument_and}
use Rattle.qtt_implicit.specs.Nodes.{argument_row, node_tree}
use Rattle.qtt_implicit.specs.TextTypes.{Applies, arguments_in, tree_in, type_tree}
use Rattle.qtt_implicit.specs.Walk.{result_type}
use Rattle.qtt_implicit.proofs.Matched.{one_given}
use Rattle.qtt_implicit.proofs.Standing.{if_ok}
use Rattle.qtt_implicit.proofs.filling.text_type.TextType.result_type.Goals as goal

pub returns-in-End-others : goal.returns-in-End-others
returns-in-End-others c =
    let found = c.in-Some.found in
    let h = subst (Applies (type_tree c.args.self)) c.in-Some.is c.in_ok-application.ensures in
    let F = type_tree found.function in
    let s = found.function.shared in
    let k = c.in-More.mark in
    let v = node_tree c.in-More.value.now in
    if_ok c.given.result _ _ (λ t e. e
    ∙ sym (one_given F k (tree_in s v) found.span)
    ∙ sym (ap (λ o. result_type (apply F (arguments_in s (argument_and (argument k v) (argument_row o))) found.span))
    c.in-End-others.is)
    ∙ sym (ap (λ a. result_type (apply F (arguments_in s (argument_row a)) found.span)) c.in-More.is)
    ∙ sym (ap result_type h)) c.given.ensures
