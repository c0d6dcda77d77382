-- Two applications are matched part by part.
use Rattle.std.proofs.Common.{◌≡◌, ◌∙◌, ap, sym, subst, ℕ, nat_eq, true, false}
use mathlib.Core.Path.{ap₂}
use Rattle.qtt_syntax.specs.Tree.{Tree}
use Rattle.qtt_implicit.specs.Matching.{argument_count, matched, matched_arguments}
use Rattle.qtt_implicit.specs.Nodes.{argument_row, node_tree}
use Rattle.qtt_implicit.specs.TextTypes.{Applies, arguments_in, open_list, type_tree}
use Rattle.qtt_implicit.proofs.Matched.{count_in, matched_applied, matched_uneven}
use Rattle.qtt_implicit.proofs.Standing.{if_ok}
use Rattle.qtt_implicit.proofs.filling.matching.+matched.Goals as goal

pub matched-returns-in_ok-slots-in-Some : goal.matched-returns-in_ok-slots-in-Some
matched-returns-in_ok-slots-in-Some t c =
    let T = type_tree c.args.text in
    let σ = open_list c.args.slots in
    let F = node_tree c.in-Apply.function.now in
    let found = c.in-Some.found in
    let G = type_tree found.function in
    let XS = argument_row c.in-Apply.arguments.now in
    let row = argument_row found.arguments.now in
    let YS = arguments_in found.function.shared row in
    let h = subst (Applies T) c.in-Some.is c.in_ok-application-in-Apply.ensures in
    let even : nat_eq (argument_count XS) (argument_count YS) ≡ true =
    ap (λ (k : ℕ). nat_eq (argument_count XS) k) (count_in found.function.shared row)
    ∙ sym c.same_count.ensures ∙ c.if-same_count.true in
    if_ok c.matched_arguments.result _ _ (λ s e. e
    ∙ ap (matched_arguments XS YS) c.in_ok-slots-in-Some.ensures
    ∙ sym (matched_applied F G XS YS c.in-Apply.span found.span T σ h even)
    ∙ sym (ap (λ p. matched (node_tree p) T σ) c.in-Apply.is)) c.matched_arguments.ensures

pub matched-returns-else-same_count : goal.matched-returns-else-same_count
matched-returns-else-same_count t c =
    let T = type_tree c.args.text in
    let σ = open_list c.args.slots in
    let F = node_tree c.in-Apply.function.now in
    let found = c.in-Some.found in
    let G = type_tree found.function in
    let XS = argument_row c.in-Apply.arguments.now in
    let row = argument_row found.arguments.now in
    let YS = arguments_in found.function.shared row in
    let h = subst (Applies T) c.in-Some.is c.in_ok-application-in-Apply.ensures in
    let uneven : nat_eq (argument_count XS) (argument_count YS) ≡ false =
    ap (λ (k : ℕ). nat_eq (argument_count XS) k) (count_in found.function.shared row)
    ∙ sym c.same_count.ensures ∙ c.if-same_count.false in
    sym (matched_uneven F G XS YS c.in-Apply.span found.span T σ h uneven)
    ∙ sym (ap (λ p. matched (node_tree p) T σ) c.in-Apply.is)

pub matched_arguments-returns-in_ok-slots-in-More-arguments :
    goal.matched_arguments-returns-in_ok-slots-in-More-arguments
matched_arguments-returns-in_ok-slots-in-More-arguments t c =
    let σ = open_list c.args.slots in
    let s = c.args.text.shared in
    let P = node_tree c.in-More.pattern.now in
    let PS = argument_row c.in-More.patterns.now in
    let YS = arguments_in s (argument_row c.in-More-arguments.others.now) in
    if_ok c.matched_arguments.result _ _ (λ r e. e
    ∙ ap (matched_arguments PS YS) (c.in_ok-slots-in-More-arguments.ensures
    ∙ ap (λ (u : Tree). matched P u σ) c.at.ensures.tree)
    ∙ sym (ap₂ (λ p a. matched_arguments (argument_row p) (arguments_in s (argument_row a)) σ) c.in-More.is
    c.in-More-arguments.is)) c.matched_arguments.ensures
