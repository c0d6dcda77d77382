-- The forms with rows of parts, and an argument that is kept or dropped.
use Rattle.std.proofs.Common.{◌≡◌, ◌∙◌, ◌+◌, ap, sym, arith, map, length}
use Rattle.std.specs.Prelude.{filter_map}
use Rattle.std.proofs.lemmas.Grind.{common_steps}
use Rattle.qtt_syntax.specs.View.{tree_of, argument_of, binder_of, statement_of}
use Rattle.qtt_implicit.specs.Forgetting.{number_of, without, argument_without, binder_without, statement_without, behind_binder, behind_statement, in_passing}
use Rattle.qtt_implicit.proofs.ForgottenParts.{parts, apply_without, lambda_without, do_without}
use Rattle.qtt_implicit.proofs.forgetting.numbers.Numbers.+without.Goals as goal
use Rattle.qtt_implicit.proofs.forgetting.numbers.Numbers.+without.Goals.{arguments-in-Some+in_ok-push, arguments-in_default}

pub arguments-loop-argument-preserved : goal.arguments-loop-argument-preserved
arguments-loop-argument-preserved t c =
    elim c.match-branch-3.branch [
      | arguments-in-Some+in_ok-push w ↦ grind (arith, parts)
      | arguments-in_default w ↦ grind (arith, parts)
    ]

pub expr-returns-in_ok-arguments-in-Apply : goal.expr-returns-in_ok-arguments-in-Apply
expr-returns-in_ok-arguments-in-Apply t c =
    let f = number_of c.args.self.now in
    let function : tree_of c.in_ok-function-in-Apply.function.value ≡
    without f c.args.depth (tree_of c.in-Apply.function.value) = grind (arith, common_steps) in
    let row : map argument_of c.in_ok-arguments-in-Apply.arguments.items ≡
    filter_map (argument_without f c.args.depth) (map argument_of c.in-Apply.arguments.items) =
    grind (arith, common_steps) in
    apply_without f c.args.depth c.in_ok-function-in-Apply.function c.in-Apply.function
    c.in_ok-arguments-in-Apply.arguments c.in-Apply.arguments c.in-Apply.span function row
    ∙ sym (ap (λ e. without f c.args.depth (tree_of e)) c.in-Apply.is)

pub expr-returns-in_ok-body-in-Lambda : goal.expr-returns-in_ok-body-in-Lambda
expr-returns-in_ok-body-in-Lambda t c =
    let f = number_of c.args.self.now in
    let inside : c.in_ok-inside-in-Lambda.inside ≡ c.args.depth + length c.in-Lambda.binders.items =
    grind (arith, common_steps) in
    let body : tree_of c.in_ok-body-in-Lambda.body.value ≡
    without f c.in_ok-inside-in-Lambda.inside (tree_of c.in-Lambda.body.value) = grind (arith, common_steps) in
    let row : map binder_of c.in_ok-binders-in-Lambda.binders.items ≡
    in_passing behind_binder (binder_without f) c.args.depth (map binder_of c.in-Lambda.binders.items) =
    grind (arith, common_steps) in
    lambda_without f c.args.depth c.in_ok-inside-in-Lambda.inside c.in_ok-binders-in-Lambda.binders
    c.in-Lambda.binders c.in_ok-body-in-Lambda.body c.in-Lambda.body c.in-Lambda.span inside body row
    ∙ sym (ap (λ e. without f c.args.depth (tree_of e)) c.in-Lambda.is)

pub expr-returns-in_ok-statements-in-Do : goal.expr-returns-in_ok-statements-in-Do
expr-returns-in_ok-statements-in-Do t c =
    let f = number_of c.args.self.now in
    let row : map statement_of c.in_ok-statements-in-Do.field-0.items ≡
    in_passing behind_statement (statement_without f) c.args.depth (map statement_of c.in-Do.statements.items) =
    grind (arith, common_steps) in
    do_without f c.args.depth c.in_ok-statements-in-Do.field-0 c.in-Do.statements c.in-Do.span row
    ∙ sym (ap (λ e. without f c.args.depth (tree_of e)) c.in-Do.is)
