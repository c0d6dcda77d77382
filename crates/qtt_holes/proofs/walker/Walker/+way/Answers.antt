-- Each form of the way by its rule.
use Rattle.std.proofs.Common.{◌≡◌, ◌∙◌, ap, rules, sym, subst, arith, ◌+◌}
use Rattle.qtt_syntax.specs.View.{tree_of, statement_of, written_type}
use Rattle.qtt_syntax.specs.Tree.Statements.{statement_and}
use Rattle.qtt_syntax.proofs.Rows.{lambda_view, do_view, let_view, local_view}
use Rattle.qtt_term.specs.Contexts.{part}
use Rattle.qtt_term.specs.Entries.{entries, env}
use Rattle.qtt_term.specs.View.{term}
use Rattle.qtt_bidi.specs.Parts.{binder_trees, statement_trees}
use Rattle.qtt_bidi.specs.Seen.{locals}
use Rattle.qtt_bidi.proofs.Scopes.{raised-one}
use Rattle.qtt_bidi.proofs.Taking.{only-in}
use Rattle.qtt_bidi.proofs.Weights.{weight, binders_weight, statements_weight}
use Rattle.qtt_bidi.proofs.Within.{here, later}
use Rattle.qtt_holes.specs.Calls.{Finds}
use Rattle.qtt_holes.specs.View.{names_of}
use Rattle.qtt_holes.specs.Walk.{statements_way}
use Rattle.qtt_holes.proofs.Onward.{passed-on, onward, found, behind, turned, given-way, run-before, bind-before, let-before}
use Rattle.qtt_holes.proofs.walker.Walker.+way.Goals as goal

-- ---- way
pub way-returns-in-Hole-clause-gives : goal.way-returns-in-Hole-clause-gives
way-returns-in-Hole-clause-gives g t c =
    let G = entries c.args.self.now.elaborator.globals.now in
    let N = c.args.self.now.elaborator.budget in
    let p = part c.args.self.now.sigma in
    let S = locals c.args.scope.now in
    let ns = names_of c.args.names.now in
    let r = c.at_hole.result in
    given-way G N p S ns (term c.args.ty) _ _ r (ap tree_of c.in-Hole.is) (found _ _ _ r c.at_hole.ensures.gives)

pub way-returns-in-Lambda-clause-gives : goal.way-returns-in-Lambda-clause-gives
way-returns-in-Lambda-clause-gives g t c =
    let G = entries c.args.self.now.elaborator.globals.now in
    let N = c.args.self.now.elaborator.budget in
    let p = part c.args.self.now.sigma in
    let S = locals c.args.scope.now in
    let ns = names_of c.args.names.now in
    let r = c.function.result in
    let b : c.deref-in-Lambda.result.now ≡ c.in-Lambda.body.value = search rules in
    given-way G N p S ns (term c.args.ty) _ _ r
    (ap tree_of c.in-Lambda.is ∙ lambda_view c.in-Lambda.binders c.in-Lambda.body c.in-Lambda.span)
    (rw (b, c.deref.ensures.value) at c.function.ensures.gives)

pub way-returns-in-Let-clause-gives : goal.way-returns-in-Let-clause-gives
way-returns-in-Let-clause-gives g t c =
    let G = entries c.args.self.now.elaborator.globals.now in
    let N = c.args.self.now.elaborator.budget in
    let p = part c.args.self.now.sigma in
    let S = locals c.args.scope.now in
    let ns = names_of c.args.names.now in
    let r = c.letting.result in
    let e : c.deref-in-Let.result.now ≡ c.in-Let.value.value = search rules in
    let b : c.deref-in-Let-2.result.now ≡ c.in-Let.body.value = search rules in
    given-way G N p S ns (term c.args.ty) _ _ r
    (ap tree_of c.in-Let.is
    ∙ let_view c.in-Let.mult c.in-Let.name c.in-Let.written c.in-Let.value c.in-Let.body c.in-Let.span)
    (rw (e, b) at c.letting.ensures.gives c.in-Let.span)

pub way-returns-in-Do-clause-gives : goal.way-returns-in-Do-clause-gives
way-returns-in-Do-clause-gives g t c =
    let G = entries c.args.self.now.elaborator.globals.now in
    let N = c.args.self.now.elaborator.budget in
    let p = part c.args.self.now.sigma in
    let S = locals c.args.scope.now in
    let ns = names_of c.args.names.now in
    let r = c.statements.result in
    given-way G N p S ns (term c.args.ty) _ _ r
    (ap tree_of c.in-Do.is ∙ do_view c.in-Do.statements c.in-Do.span)
    (rw c.deref-in-Do.ensures.value at c.statements.ensures.gives)

-- ---- binder
pub binder-returns-in_err-function-clause-gives : goal.binder-returns-in_err-function-clause-gives
binder-returns-in_err-function-clause-gives g t c =
    passed-on _ _ _ c.from_residual.result c.in_err-function.field-0.0 c.from_residual.ensures.1
    (here _ _ _ _ _ c.in_err-function.ensures)

pub binder-returns-in_err-written_domain-clause-gives : goal.binder-returns-in_err-written_domain-clause-gives
binder-returns-in_err-written_domain-clause-gives g t c =
    passed-on _ _ _ c.from_residual-in_err-written_domain.result c.in_err-written_domain.field-0.0
    c.from_residual-in_err-written_domain.ensures.1
    (later _ _ _ _ _ c.in_ok-function.ensures (here _ _ _ _ _ c.in_err-written_domain.ensures))

pub binder-returns-in_err-found-clause-gives : goal.binder-returns-in_err-found-clause-gives
binder-returns-in_err-found-clause-gives g t c =
    passed-on _ _ _ c.from_residual-in_err-found.result c.in_err-found.field-0.0
    c.from_residual-in_err-found.ensures.1
    (later _ _ _ _ _ c.in_ok-function.ensures (later _ _ _ _ _ c.in_ok-written_domain.ensures
    (here _ _ _ _ _ (rw c.binder_name-name.ensures at c.in_err-found.ensures.gives))))

pub binder-returns-clause-gives : goal.binder-returns-clause-gives
binder-returns-clause-gives g t c =
    let r = c.passed.result in
    let d = rw c.binder_name-name.ensures at c.in_ok-found.ensures.gives in
    onward _ _ _ _ r c.in_ok-function.ensures (onward _ _ _ _ r c.in_ok-written_domain.ensures
    (onward _ _ _ _ r d.reaches (behind _ _ _ _ _ _ c.in_ok-found.found _ _ r d.stands
    (rw (c.binder_name-name.ensures, c.binder_place-place.ensures) at c.passed.ensures.gives)
    (c.passed.ensures.stands d.walked d.stands))))

-- ---- letting
pub letting-returns-in_err-value-clause-gives : goal.letting-returns-in_err-value-clause-gives
letting-returns-in_err-value-clause-gives g t c =
    λ s.
    passed-on _ _ _ c.from_residual.result c.in_err-value.field-0.0 c.from_residual.ensures.1
    (here _ _ _ _ _ (rw c.under-part.ensures at c.in_err-value.ensures.gives))

pub letting-returns-in_err-found-clause-gives : goal.letting-returns-in_err-found-clause-gives
letting-returns-in_err-found-clause-gives g t c =
    λ s.
    passed-on _ _ _ c.from_residual-in_err-found.result c.in_err-found.field-0.0
    c.from_residual-in_err-found.ensures.1
    (later _ _ _ _ _ (rw c.under-part.ensures at c.in_ok-value.ensures.gives)
    (here _ _ _ _ _ (rw (c.in_ok-lifted.ensures, raised-one) at c.in_err-found.ensures.gives)))

pub letting-returns-clause-gives : goal.letting-returns-clause-gives
letting-returns-clause-gives g t c =
    λ s.
    let r = c.let_end.result in
    let d = rw (c.in_ok-lifted.ensures, raised-one) at c.in_ok-found.ensures.gives in
    onward _ _ _ _ r (rw c.under-part.ensures at c.in_ok-value.ensures.gives)
    (onward _ _ _ _ r d.reaches (behind _ _ _ _ _ _ c.in_ok-found.found _ _ r d.stands c.let_end.ensures.gives
    (c.let_end.ensures.stands d.walked d.stands)))

-- ---- statements
pub statements-returns-in-len1-clause-gives : goal.statements-returns-in-len1-clause-gives
statements-returns-in-len1-clause-gives g t c =
    let G = entries c.args.self.now.elaborator.globals.now in
    let N = c.args.self.now.elaborator.budget in
    let p = part c.args.self.now.sigma in
    let S = locals c.args.scope.now in
    let ns = names_of c.args.names.now in
    let ss = c.args.statements.now in
    let r = c.last.result in
    subst (λ ss. Finds (env G) N (statements_way G p S ns c.args.span (statement_trees ss) (term c.args.ty)) r)
    (sym (only-in ss c.last-item.result c.in-len1.len_at_least c.in-len1.len_below c.last-item.is))
    (c.last.ensures.gives c.args.span)

-- ---- statement
pub statement-returns-in-Run-clause-gives : goal.statement-returns-in-Run-clause-gives
statement-returns-in-Run-clause-gives g t c =
    let G = entries c.args.self.now.elaborator.globals.now in
    let N = c.args.self.now.elaborator.budget in
    let p = part c.args.self.now.sigma in
    let S = locals c.args.scope.now in
    let ns = names_of c.args.names.now in
    let A = term c.args.ty in
    let s = c.args.span in
    let ts = c.args.rest.now in
    let r = c.action.result in
    subst (λ t. Finds (env G) N (statements_way G p S ns s (statement_and (statement_of t) (statement_trees ts)) A) r)
    (sym c.in-Run.is)
    (turned (env G) N _ _ r (run-before G p S ns s c.in-Run.span A (tree_of c.in-Run.value) ts c.requires)
    c.action.ensures.gives)

pub statement-returns-in-Bind-clause-gives : goal.statement-returns-in-Bind-clause-gives
statement-returns-in-Bind-clause-gives g t c =
    let G = entries c.args.self.now.elaborator.globals.now in
    let N = c.args.self.now.elaborator.budget in
    let p = part c.args.self.now.sigma in
    let S = locals c.args.scope.now in
    let ns = names_of c.args.names.now in
    let A = term c.args.ty in
    let s = c.args.span in
    let ts = c.args.rest.now in
    let r = c.action-in-Bind.result in
    subst (λ t. Finds (env G) N (statements_way G p S ns s (statement_and (statement_of t) (statement_trees ts)) A) r)
    (sym c.in-Bind.is)
    (turned (env G) N _ _ r (bind-before G p S ns s s A _ _ ts c.requires) c.action-in-Bind.ensures.gives)

pub statement-returns-in-Let-clause-gives : goal.statement-returns-in-Let-clause-gives
statement-returns-in-Let-clause-gives g t c =
    let G = entries c.args.self.now.elaborator.globals.now in
    let N = c.args.self.now.elaborator.budget in
    let p = part c.args.self.now.sigma in
    let S = locals c.args.scope.now in
    let ns = names_of c.args.names.now in
    let A = term c.args.ty in
    let s = c.args.span in
    let ts = c.args.rest.now in
    let r = c.let_statement.result in
    subst (λ t. Finds (env G) N (statements_way G p S ns s (statement_and (statement_of t) (statement_trees ts)) A) r)
    (sym c.in-Let.is)
    (turned (env G) N _ _ r
    (ap (λ t. statements_way G p S ns s (statement_and t (statement_trees ts)) A)
    (local_view c.in-Let.mult c.in-Let.name c.in-Let.written c.in-Let.value c.in-Let.span)
    ∙ let-before G p S ns s c.in-Let.span A c.in-Let.mult c.in-Let.name (written_type c.in-Let.written)
    (tree_of c.in-Let.value) ts c.requires) c.let_statement.ensures.gives)

-- ---- let_statement
pub let_statement-returns-in_err-value-clause-gives : goal.let_statement-returns-in_err-value-clause-gives
let_statement-returns-in_err-value-clause-gives g t c =
    passed-on _ _ _ c.from_residual.result c.in_err-value.field-0.0 c.from_residual.ensures.1
    (here _ _ _ _ _ (rw c.under-part.ensures at c.in_err-value.ensures.gives))

pub let_statement-returns-in_err-found-clause-gives : goal.let_statement-returns-in_err-found-clause-gives
let_statement-returns-in_err-found-clause-gives g t c =
    passed-on _ _ _ c.from_residual-in_err-found.result c.in_err-found.field-0.0
    c.from_residual-in_err-found.ensures.1
    (later _ _ _ _ _ (rw c.under-part.ensures at c.in_ok-value.ensures.gives)
    (here _ _ _ _ _ (rw (c.in_ok-lifted.ensures, raised-one, c.first_place.ensures) at c.in_err-found.ensures.gives)))

pub let_statement-returns-clause-gives : goal.let_statement-returns-clause-gives
let_statement-returns-clause-gives g t c =
    let r = c.let_end.result in
    let d = rw (c.in_ok-lifted.ensures, raised-one, c.first_place.ensures) at c.in_ok-found.ensures.gives in
    onward _ _ _ _ r (rw c.under-part.ensures at c.in_ok-value.ensures.gives)
    (onward _ _ _ _ r d.reaches (behind _ _ _ _ _ _ c.in_ok-found.found _ _ r d.stands c.let_end.ensures.gives
    (c.let_end.ensures.stands d.walked d.stands)))

-- ---- action
pub action-returns-in_err-action_type-clause-gives : goal.action-returns-in_err-action_type-clause-gives
action-returns-in_err-action_type-clause-gives g t c =
    passed-on _ _ _ c.from_residual.result c.in_err-action_type.field-0.0 c.from_residual.ensures.1
    (here _ _ _ _ _ c.in_err-action_type.ensures)

pub action-returns-in_err-action-clause-gives : goal.action-returns-in_err-action-clause-gives
action-returns-in_err-action-clause-gives g t c =
    passed-on _ _ _ c.from_residual-in_err-action.result c.in_err-action.field-0.0
    c.from_residual-in_err-action.ensures.1
    (later _ _ _ _ _ c.in_ok-action_type.ensures (here _ _ _ _ _ c.in_err-action.ensures.gives))

pub action-returns-in_err-result-clause-gives : goal.action-returns-in_err-result-clause-gives
action-returns-in_err-result-clause-gives g t c =
    passed-on _ _ _ c.from_residual-in_err-result.result c.in_err-result.field-0.0
    c.from_residual-in_err-result.ensures.1
    (later _ _ _ _ _ c.in_ok-action_type.ensures (later _ _ _ _ _ c.in_ok-action.ensures.gives
    (here _ _ _ _ _ (rw c.first_token-place.ensures at c.in_err-result.ensures))))

pub action-returns-in_err-found-clause-gives : goal.action-returns-in_err-found-clause-gives
action-returns-in_err-found-clause-gives g t c =
    passed-on _ _ _ c.from_residual-in_err-found.result c.in_err-found.field-0.0
    c.from_residual-in_err-found.ensures.1
    (later _ _ _ _ _ c.in_ok-action_type.ensures (later _ _ _ _ _ c.in_ok-action.ensures.gives
    (later _ _ _ _ _ (rw c.first_token-place.ensures at c.in_ok-result.ensures)
    (here _ _ _ _ _ c.in_err-found.ensures.gives))))

pub action-returns-clause-gives : goal.action-returns-clause-gives
action-returns-clause-gives g t c =
    let r = c.bind_end.result in
    let d = c.in_ok-found.ensures.gives in
    let e = c.bind_end.ensures in
    onward _ _ _ _ r c.in_ok-action_type.ensures (onward _ _ _ _ r c.in_ok-action.ensures.gives
    (onward _ _ _ _ r (rw c.first_token-place.ensures at c.in_ok-result.ensures)
    (onward _ _ _ _ r d.reaches (behind _ _ _ _ _ _ c.in_ok-found.found _ _ r d.stands
    (rw (c.mult_after.ensures, c.first_token-place.ensures) at e.gives)
    (rw c.mult_after.ensures at e.stands d.walked d.stands)))))

-- ---- bound
pub bound-returns-clause-gives : goal.bound-returns-clause-gives
bound-returns-clause-gives g t c =
    rw (
      c.with-inner.ensures,
      c.with-inside.ensures,
      c.mult_after.ensures,
      c.in_ok-lifted.ensures,
      raised-one,
      c.first_place.ensures,
    ) at c.statements.ensures.gives

-- ---- what is walked next weighs less
pub way-function-requires : goal.way-function-requires
way-function-requires g t c =
    let v = c.in-Lambda.binders.items in
    let f : c.deref-in-Lambda.result.now ≡ c.in-Lambda.body.value = search rules in
    let w : weight (tree_of c.args.e.now) ≡
    binders_weight (binder_trees v) + weight (tree_of c.in-Lambda.body.value) + 6 =
    ap weight (ap tree_of c.in-Lambda.is ∙ lambda_view c.in-Lambda.binders c.in-Lambda.body c.in-Lambda.span) in
    let a : weight (tree_of c.deref-in-Lambda.result.now) ≡ weight (tree_of c.in-Lambda.body.value) =
    ap (λ e. weight (tree_of e)) f in
    let b : binders_weight (binder_trees c.deref.result.now) ≡ binders_weight (binder_trees v) =
    ap (λ bs. binders_weight (binder_trees bs)) c.deref.ensures.value in
    λ κs within. (omega (arith, w, a, b, c.decreases), within)

pub way-statements-requires : goal.way-statements-requires
way-statements-requires g t c =
    let v = c.in-Do.statements.items in
    let w : weight (tree_of c.args.e.now) ≡ statements_weight (statement_trees v) + 6 =
    ap weight (ap tree_of c.in-Do.is ∙ do_view c.in-Do.statements c.in-Do.span) in
    let b : statements_weight (statement_trees c.deref-in-Do.result.now) ≡ statements_weight (statement_trees v) =
    ap (λ ss. statements_weight (statement_trees ss)) c.deref-in-Do.ensures.value in
    λ κs within. (omega (arith, w, b, c.decreases), within)
