-- The forms with rows of parts, and the parts that stop a row.
use Rattle.std.proofs.Common.{◌≡◌, ◌∙◌, ap, sym, arith, Ok, map, fold, [], ◌∷◌, ◌++◌}
use Rattle.std.proofs.lemmas.Grind.{common_steps}
use Rattle.qtt_syntax.specs.declared.expr.Local.{Local}
use Rattle.qtt_syntax.specs.Tree.Tree.{letting}
use Rattle.qtt_syntax.specs.Tree.Statement.{local}
use Rattle.qtt_syntax.specs.View.{tree_of, written_type, argument_of, binder_of, statement_of}
use Rattle.qtt_syntax.proofs.Rows.{apply_view, lambda_view, do_view, let_view, local_view}
use Rattle.qtt_names.specs.InTurn.{in_turn}
use Rattle.qtt_names.specs.Filled.{filled, filled_annotation, filled_argument, filled_binder, filled_statement, unmoved, behind_binder, behind_statement}
use Rattle.qtt_names.specs.View.{names_of}
use Rattle.qtt_names.proofs.Steps.{in_turn-at}
use Rattle.qtt_names.proofs.Parts.{parts, apply_form, lambda_form, let_form, do_form, local_form, apply_found, lambda_found, let_found, do_found, local_found}
use Rattle.qtt_names.proofs.target.Resolver.+filled.Goals as goal

-- ---- rows

pub arguments-returns-in_err-argument-clause-gives : goal.arguments-returns-in_err-argument-clause-gives
arguments-returns-in_err-argument-clause-gives t c =
    let at = in_turn-at (filled_argument (names_of c.args.self.now)) unmoved argument_of c.args.locals.now.items
    c.args.source.now c.loop-argument.argument-index c.argument-item.result c.loop-argument-test.true
    c.argument-item.is in
    rw at (grind (arith, parts))

pub binders-returns-in_err-binder-clause-gives : goal.binders-returns-in_err-binder-clause-gives
binders-returns-in_err-binder-clause-gives t c =
    let at = in_turn-at (filled_binder (names_of c.args.self.now)) behind_binder binder_of c.args.locals.now.items
    c.args.source.now c.loop-binder.binder-index c.binder-item.result c.loop-binder-test.true c.binder-item.is
    in
    rw at (grind (arith, parts))

pub statements-returns-in_err-statement-clause-gives : goal.statements-returns-in_err-statement-clause-gives
statements-returns-in_err-statement-clause-gives t c =
    let at = in_turn-at (filled_statement (names_of c.args.self.now)) behind_statement statement_of
    c.args.locals.now.items c.args.source.now c.loop-statement.statement-index c.statement-item.result
    c.loop-statement-test.true c.statement-item.is in
    rw at (grind (arith, parts))

-- ---- applications

pub expr-returns-in_err-arguments-in-Apply-clause-gives : goal.expr-returns-in_err-arguments-in-Apply-clause-gives
expr-returns-in_err-arguments-in-Apply-clause-gives t c =
    rw (apply_form _ _ _ _ c.in-Apply.is) (grind (arith, parts))

pub expr-returns-in_ok-arguments-in-Apply-clause-gives : goal.expr-returns-in_ok-arguments-in-Apply-clause-gives
expr-returns-in_ok-arguments-in-Apply-clause-gives t c =
    let names = names_of c.args.self.now in
    let one : filled names c.args.locals.now.items (tree_of c.in-Apply.function.value) ≡ Ok
    (tree_of c.in_ok-function-in-Apply.function.value) = grind (arith, common_steps) in
    let other : in_turn (filled_argument names) unmoved c.args.locals.now.items
    (map argument_of c.in-Apply.arguments.items) ≡ Ok
    (map argument_of c.in_ok-arguments-in-Apply.arguments.items) = grind (arith, common_steps) in
    ap (filled names c.args.locals.now.items) (apply_form _ _ _ _ c.in-Apply.is) ∙
    apply_found names _ _ _ _ _ _ one other ∙
    ap Ok (sym (apply_view c.in_ok-function-in-Apply.function c.in_ok-arguments-in-Apply.arguments
    c.in-Apply.span))

-- ---- functions

pub expr-returns-in_err-binders-in-Lambda-clause-gives : goal.expr-returns-in_err-binders-in-Lambda-clause-gives
expr-returns-in_err-binders-in-Lambda-clause-gives t c =
    rw (lambda_form _ _ _ _ c.in-Lambda.is) (grind (arith, parts))

pub expr-returns-in_err-expr-in-Lambda-clause-gives : goal.expr-returns-in_err-expr-in-Lambda-clause-gives
expr-returns-in_err-expr-in-Lambda-clause-gives t c =
    rw (lambda_form _ _ _ _ c.in-Lambda.is) (grind (arith, parts))

pub expr-returns-in_ok-body-in-Lambda-clause-gives : goal.expr-returns-in_ok-body-in-Lambda-clause-gives
expr-returns-in_ok-body-in-Lambda-clause-gives t c =
    let names = names_of c.args.self.now in
    let one : in_turn (filled_binder names) behind_binder c.args.locals.now.items
    (map binder_of c.in-Lambda.binders.items) ≡ Ok (map binder_of c.in_ok-binders-in-Lambda.binders.items) =
    grind (arith, common_steps) in
    let other : filled names (fold behind_binder c.args.locals.now.items
    (map binder_of c.in-Lambda.binders.items)) (tree_of c.in-Lambda.body.value) ≡ Ok
    (tree_of c.in_ok-body-in-Lambda.body.value) = grind (arith, common_steps) in
    ap (filled names c.args.locals.now.items) (lambda_form _ _ _ _ c.in-Lambda.is) ∙
    lambda_found names _ _ _ _ _ _ one other ∙
    ap Ok (sym (lambda_view c.in_ok-binders-in-Lambda.binders c.in_ok-body-in-Lambda.body c.in-Lambda.span))

-- ---- local definitions

pub expr-returns-in_err-expr-in-Let-clause-gives : goal.expr-returns-in_err-expr-in-Let-clause-gives
expr-returns-in_err-expr-in-Let-clause-gives t c =
    rw (let_form _ _ _ _ _ _ _ c.in-Let.is) (grind (arith, parts))

pub expr-returns-in_err-body-in-Let-clause-gives : goal.expr-returns-in_err-body-in-Let-clause-gives
expr-returns-in_err-body-in-Let-clause-gives t c =
    rw (let_form _ _ _ _ _ _ _ c.in-Let.is) (grind (arith, parts))

pub expr-returns-in_ok-copied-in-Let-clause-gives : goal.expr-returns-in_ok-copied-in-Let-clause-gives
expr-returns-in_ok-copied-in-Let-clause-gives t c =
    let names = names_of c.args.self.now in
    let one : filled_annotation names c.args.locals.now.items (written_type c.in-Let.ty) ≡ Ok
    (written_type c.in_ok-ty-in-Let.ty) = grind (arith, common_steps) in
    let two : filled names c.args.locals.now.items (tree_of c.in-Let.value.value) ≡ Ok
    (tree_of c.in_ok-value-in-Let.value.value) = grind (arith, common_steps) in
    let three : filled names (c.args.locals.now.items ++ c.in-Let.name.name ∷ [])
    (tree_of c.in-Let.body.value) ≡ Ok (tree_of c.in_ok-body-in-Let.body.value) =
    grind (arith, common_steps) in
    let same : c.in-Let.name ≡ c.in_ok-copied-in-Let.field-0 = sym c.in_ok-copied-in-Let.ensures in
    ap (filled names c.args.locals.now.items) (let_form _ _ _ _ _ _ _ c.in-Let.is) ∙
    let_found names _ _ _ _ _ _ _ _ _ _ one two three
    ∙ ap (λ (n : Local). Ok (letting c.in-Let.mult n (written_type c.in_ok-ty-in-Let.ty)
    (tree_of c.in_ok-value-in-Let.value.value) (tree_of c.in_ok-body-in-Let.body.value) c.in-Let.span)) same
    ∙ ap Ok (sym (let_view c.in-Let.mult c.in_ok-copied-in-Let.field-0 c.in_ok-ty-in-Let.ty
    c.in_ok-value-in-Let.value c.in_ok-body-in-Let.body c.in-Let.span))

pub statement-returns-in_ok-copied-in-Let-clause-gives : goal.statement-returns-in_ok-copied-in-Let-clause-gives
statement-returns-in_ok-copied-in-Let-clause-gives t c =
    let names = names_of c.args.self.now in
    let one : filled_annotation names c.args.locals.now.items (written_type c.in-Let.ty) ≡ Ok
    (written_type c.in_ok-ty-in-Let.ty) = grind (arith, common_steps) in
    let two : filled names c.args.locals.now.items (tree_of c.in-Let.value) ≡ Ok
    (tree_of c.in_ok-value-in-Let.value) = grind (arith, common_steps) in
    let same : c.in-Let.name ≡ c.in_ok-copied-in-Let.field-0 = sym c.in_ok-copied-in-Let.ensures in
    ap (filled_statement names c.args.locals.now.items) (local_form _ _ _ _ _ _ c.in-Let.is) ∙
    local_found names _ _ _ _ _ _ _ _ one two
    ∙ ap (λ (n : Local). Ok (local c.in-Let.mult n (written_type c.in_ok-ty-in-Let.ty)
    (tree_of c.in_ok-value-in-Let.value) c.in-Let.span)) same
    ∙ ap Ok (sym (local_view c.in-Let.mult c.in_ok-copied-in-Let.field-0 c.in_ok-ty-in-Let.ty
    c.in_ok-value-in-Let.value c.in-Let.span))

-- ---- `do`

pub expr-returns-in_err-statements-in-Do-clause-gives : goal.expr-returns-in_err-statements-in-Do-clause-gives
expr-returns-in_err-statements-in-Do-clause-gives t c =
    rw (do_form _ _ _ c.in-Do.is) (grind (arith, parts))

pub expr-returns-in_ok-statements-in-Do-clause-gives : goal.expr-returns-in_ok-statements-in-Do-clause-gives
expr-returns-in_ok-statements-in-Do-clause-gives t c =
    let names = names_of c.args.self.now in
    let one : in_turn (filled_statement names) behind_statement c.args.locals.now.items
    (map statement_of c.in-Do.statements.items) ≡ Ok
    (map statement_of c.in_ok-statements-in-Do.statements.items) = grind (arith, common_steps) in
    ap (filled names c.args.locals.now.items) (do_form _ _ _ c.in-Do.is) ∙ do_found names _ _ _ _ one ∙
    ap Ok (sym (do_view c.in_ok-statements-in-Do.statements c.in-Do.span))
