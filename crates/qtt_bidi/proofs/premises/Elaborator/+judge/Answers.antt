-- Each form by its rule.
use Rattle.std.proofs.Common.{◌≡◌, ◌∙◌, ap, rules, sym, subst, length, refl, [], ◌∷◌, ◌-◌, take, drop}
use Rattle.qtt_syntax.specs.View.{tree_of, argument_of, binder_of, statement_of, written_type}
use Rattle.qtt_syntax.proofs.Rows.{apply_view, lambda_view, do_view, let_view, local_view}
use Rattle.qtt_term.specs.Contexts.{part}
use Rattle.qtt_term.specs.Entries.{entries, env}
use Rattle.qtt_bidi.specs.Seen.{locals, mode_of, judged_as, function as function_as}
use Rattle.qtt_bidi.proofs.Taking.{given-form, listed-uncounted, listed-untaken, listed-taken, con-needs, con-uncounted, con-untaken, con-taken, check-other, check-uncounted, check-untaken, check-differs, check-taken, refuse-told, exactly-is, asked-so, took, Filling, fill-passed, fill-unused, nothing-in, first-in, whole-first, whole-rest, whole-filled, applied-more, only-in}
use Rattle.qtt_bidi.specs.Answers.{Gives, Refuses, Reaches, Fails}
use Rattle.qtt_bidi.specs.Elaboration.{global_row, name_row, none_written, pure_row, arguments, applied, judge, synthesised_lambda, written_domain, statements}
use Rattle.qtt_bidi.specs.Listed.{meaning_of}
use Rattle.qtt_bidi.proofs.Filling.{none-written, filled-empty, filled-ended}
use Rattle.qtt_bidi.proofs.Within.{on, on_done, here, later, passed, reached, tail, same-judged, same-refusal, same-answer, same, holds, unmet, fails_here}
use Rattle.qtt_bidi.proofs.Switching.{switch-refused, switch-gives}
use Rattle.qtt_term.specs.View.{term, io, terms, side_by_side}
use mathlib.Core.Path.{ap₂}
use Rattle.qtt_term.specs.Signature.{mult_of}
use Rattle.qtt_term.specs.Term.{Action, Act, var, ε, ◌▸◌}
use Rattle.qtt_term.proofs.Binders.{var-seen}
use Rattle.qtt_rules.specs.Judged.{judged, Mode}
use Rattle.qtt_rules.specs.Refusal.{Cause, at}
use Rattle.qtt_bidi.specs.Ends.{written, bind_then}
use Rattle.qtt_bidi.specs.Parts.{argument_trees, binder_trees, statement_trees}
use Rattle.qtt_usage.specs.Usage.{usage_sum}
use Rattle.qtt_term.specs.Telescopes.{tele, filled}
use Rattle.qtt_bidi.specs.Calls.{Filled}
use Rattle.qtt_syntax.specs.Tree.Tree.{lambda, apply}
use Rattle.std.proofs.Common.{arith, ◌+◌, w64, FitsSigned}
use Rattle.std.proofs.lemmas.Int.{to_z-of_z}
use Rattle.qtt_bidi.proofs.Weights.{weight, arguments_weight, binders_weight, statements_weight}
use Rattle.qtt_bidi.proofs.Looked.{told}
use Rattle.qtt_syntax.specs.Tree.Binders.{binder_and}
use Rattle.std.specs.Prelude.{option_map}
use Rattle.qtt_syntax.specs.Tree.Statements.{statement_and}
use Rattle.qtt_bidi.proofs.Following.{run-before, bind-before, let-before}
use Rattle.qtt_bidi.proofs.Scopes.{raised-one}
use Rattle.qtt_term.specs.declared.term.Term.TheVariants as form
use Rattle.qtt_term.specs.declared.rule.Rule.TheVariants as rule
use Rattle.qtt_bidi.proofs.premises.Elaborator.+judge.Goals as goal

-- ---- judge
pub judge-returns-in-Number-clause-gives : goal.judge-returns-in-Number-clause-gives
judge-returns-in-Number-clause-gives g t c =
    let G = entries c.args.self.now.globals.now in
    let N = c.args.self.now.budget in
    let p = part c.args.sigma in
    let S = locals c.args.scope.now in
    let m = mode_of c.args.mode in
    let r = c.number_row.result in
    let fits : FitsSigned w64 c.in-Number.value = search rules in
    given-form G N p S m _ _ r (ap tree_of c.in-Number.is)
    (rw (to_z-of_z w64 c.in-Number.value fits) at c.number_row.ensures.gives p)

pub judge-returns-in-Text-clause-gives : goal.judge-returns-in-Text-clause-gives
judge-returns-in-Text-clause-gives g t c =
    let G = entries c.args.self.now.globals.now in
    let N = c.args.self.now.budget in
    let p = part c.args.sigma in
    let S = locals c.args.scope.now in
    let m = mode_of c.args.mode in
    let r = c.text_row.result in
    given-form G N p S m _ _ r (ap tree_of c.in-Text.is)
    (rw c.deref.ensures.value at c.text_row.ensures.gives p)

pub judge-returns-in-Type-clause-gives : goal.judge-returns-in-Type-clause-gives
judge-returns-in-Type-clause-gives g t c =
    let G = entries c.args.self.now.globals.now in
    let N = c.args.self.now.budget in
    let p = part c.args.sigma in
    let S = locals c.args.scope.now in
    let m = mode_of c.args.mode in
    let r = c.universe_row.result in
    given-form G N p S m _ _ r (ap tree_of c.in-Type.is)
    (c.universe_row.ensures.gives p c.in-Type.level_span)

pub judge-returns-in-Apply-clause-gives : goal.judge-returns-in-Apply-clause-gives
judge-returns-in-Apply-clause-gives g t c =
    let G = entries c.args.self.now.globals.now in
    let N = c.args.self.now.budget in
    let p = part c.args.sigma in
    let S = locals c.args.scope.now in
    let m = mode_of c.args.mode in
    let s = c.in-Apply.span in
    let r = c.apply_row.result in
    let f : c.deref-in-Apply.result.now ≡ c.in-Apply.function.value = search rules in
    given-form G N p S m _ (apply (tree_of c.in-Apply.function.value) (argument_trees c.in-Apply.arguments.items) s) r
    (ap tree_of c.in-Apply.is ∙ apply_view c.in-Apply.function c.in-Apply.arguments s)
    (subst (λ e. Gives (env G) N (judge G p S m (apply (tree_of e) (argument_trees c.in-Apply.arguments.items) s))
    judged_as r) f
    (subst (λ es. Gives (env G) N (judge G p S m (apply (tree_of c.deref-in-Apply.result.now) (argument_trees es) s))
    judged_as r) c.deref-in-Apply-2.ensures.value c.apply_row.ensures.gives))

pub judge-returns-in-Pi-clause-gives : goal.judge-returns-in-Pi-clause-gives
judge-returns-in-Pi-clause-gives g t c =
    let G = entries c.args.self.now.globals.now in
    let N = c.args.self.now.budget in
    let p = part c.args.sigma in
    let S = locals c.args.scope.now in
    let m = mode_of c.args.mode in
    let r = c.pi_row.result in
    let a : c.deref-in-Pi.result.now ≡ c.in-Pi.domain.value = search rules in
    let b : c.deref-in-Pi-2.result.now ≡ c.in-Pi.codomain.value = search rules in
    given-form G N p S m _ _ r (ap tree_of c.in-Pi.is)
    (rw (a, b) at c.pi_row.ensures.gives p c.in-Pi.mark c.in-Pi.name)

pub judge-returns-in-Lambda-clause-gives : goal.judge-returns-in-Lambda-clause-gives
judge-returns-in-Lambda-clause-gives g t c =
    let G = entries c.args.self.now.globals.now in
    let N = c.args.self.now.budget in
    let p = part c.args.sigma in
    let S = locals c.args.scope.now in
    let m = mode_of c.args.mode in
    let r = c.lambda_row.result in
    let b : c.deref-in-Lambda-2.result.now ≡ c.in-Lambda.body.value = search rules in
    given-form G N p S m _ _ r (ap tree_of c.in-Lambda.is ∙ lambda_view c.in-Lambda.binders c.in-Lambda.body
    c.in-Lambda.span)
    (rw (b, c.deref-in-Lambda.ensures.value) at c.lambda_row.ensures.gives)

pub judge-returns-in-Let-clause-gives : goal.judge-returns-in-Let-clause-gives
judge-returns-in-Let-clause-gives g t c =
    let G = entries c.args.self.now.globals.now in
    let N = c.args.self.now.budget in
    let p = part c.args.sigma in
    let S = locals c.args.scope.now in
    let m = mode_of c.args.mode in
    let r = c.let_row.result in
    let e : c.deref-in-Let.result.now ≡ c.in-Let.value.value = search rules in
    let b : c.deref-in-Let-2.result.now ≡ c.in-Let.body.value = search rules in
    given-form G N p S m _ _ r (ap tree_of c.in-Let.is
    ∙ let_view c.in-Let.mult c.in-Let.name c.in-Let.ty c.in-Let.value c.in-Let.body c.in-Let.span)
    (rw (e, b) at c.let_row.ensures.gives c.in-Let.span)

pub judge-returns-in-Do-clause-gives : goal.judge-returns-in-Do-clause-gives
judge-returns-in-Do-clause-gives g t c =
    let G = entries c.args.self.now.globals.now in
    let N = c.args.self.now.budget in
    let p = part c.args.sigma in
    let S = locals c.args.scope.now in
    let m = mode_of c.args.mode in
    let r = c.statements.result in
    given-form G N p S m _ _ r (ap tree_of c.in-Do.is ∙ do_view c.in-Do.statements c.in-Do.span)
    (rw c.deref-in-Do.ensures.value at c.statements.ensures.gives)

-- ---- name_row
pub name_row-returns-in-Local-clause-gives : goal.name_row-returns-in-Local-clause-gives
name_row-returns-in-Local-clause-gives g t c =
    let G = entries c.args.self.now.globals.now in
    let N = c.args.self.now.budget in
    let p = part c.args.sigma in
    let S = locals c.args.scope.now in
    subst (λ t. Gives (env G) N (name_row G p S (mode_of c.args.mode) c.args.named.now.span t) judged_as
    c.local_name.result) (sym c.in-Local.is) c.local_name.ensures.gives

pub name_row-returns-in-Global-clause-gives : goal.name_row-returns-in-Global-clause-gives
name_row-returns-in-Global-clause-gives g t c =
    let G = entries c.args.self.now.globals.now in
    let N = c.args.self.now.budget in
    let p = part c.args.sigma in
    let S = locals c.args.scope.now in
    let m = mode_of c.args.mode in
    let s = c.args.named.now.span in
    let M = c.global_meaning-meaning.result in
    let r = c.global_row.result in
    subst (λ t. Gives (env G) N (name_row G p S m s t) judged_as r) (sym c.in-Global.is)
    (subst (λ x. Gives (env G) N (global_row G p S m s x (none_written S)) judged_as r)
    c.global_meaning-meaning.ensures
    (subst (λ w. Gives (env G) N (global_row G p S m s (meaning_of M) w) judged_as r) (none-written G p S)
    c.global_row.ensures.gives))

-- ---- is_type
pub is_type-returns-in_err-found : goal.is_type-returns-in_err-found
is_type-returns-in_err-found g t c =
    passed _ _ _ _ c.from_residual.result c.in_err-found.field-0.0 c.from_residual.ensures.1
    (here _ _ _ _ _ c.in_err-found.ensures.gives)

pub is_type-returns-in_err-level : goal.is_type-returns-in_err-level
is_type-returns-in_err-level g t c =
    passed _ _ _ _ c.from_residual-in_err-level.result c.in_err-level.field-0.0 c.from_residual-in_err-level.ensures.1
    (later _ _ _ _ _ c.in_ok-found.ensures.gives
    (here _ _ _ _ _ (rw c.first_token.ensures at c.in_err-level.ensures)))

pub is_type-returns : goal.is_type-returns
is_type-returns g t c =
    on _ c.in_ok-found.ensures.gives (on _ (rw c.first_token.ensures at c.in_ok-level.ensures) on_done)

-- ---- pi_row
pub pi_row-returns-in_err-first-clause-gives : goal.pi_row-returns-in_err-first-clause-gives
pi_row-returns-in_err-first-clause-gives g t c =
    λ p k x.
    passed _ _ _ _ c.from_residual.result c.in_err-first.field-0.0 c.from_residual.ensures.1
    (switch-refused _ _ (locals c.args.scope.now) (mode_of c.args.mode) c.args.span _ _
    (here _ _ _ _ _ c.in_err-first.ensures))

pub pi_row-returns-in_err-second-clause-gives : goal.pi_row-returns-in_err-second-clause-gives
pi_row-returns-in_err-second-clause-gives g t c =
    λ p k x.
    passed _ _ _ _ c.from_residual-in_err-second.result c.in_err-second.field-0.0
    c.from_residual-in_err-second.ensures.1
    (switch-refused _ _ (locals c.args.scope.now) (mode_of c.args.mode) c.args.span _ _
    (later _ _ _ _ _ c.in_ok-first.ensures (here _ _ _ _ _ c.in_err-second.ensures)))

pub pi_row-returns-clause-gives : goal.pi_row-returns-clause-gives
pi_row-returns-clause-gives g t c =
    λ p k x.
    switch-gives _ _ (locals c.args.scope.now) (mode_of c.args.mode) c.args.span _ judged_as c.switch.result
    (reached (on _ c.in_ok-first.ensures (on _ c.in_ok-second.ensures on_done)) (sym c.in_ok-found.ensures.gives))
    c.switch.ensures.gives

-- ---- ascribed
pub ascribed-returns-in_err-domain-clause-gives : goal.ascribed-returns-in_err-domain-clause-gives
ascribed-returns-in_err-domain-clause-gives g t c =
    passed _ _ _ _ c.from_residual.result c.in_err-domain.field-0.0 c.from_residual.ensures.1
    (here _ _ _ _ _ c.in_err-domain.ensures)

pub ascribed-returns-clause-gives : goal.ascribed-returns-clause-gives
ascribed-returns-clause-gives g t c = tail _ _ _ _ judged_as c.judge.result c.in_ok-domain.ensures c.judge.ensures.gives

-- ---- ascription_row
pub ascription_row-returns-in_err-found-clause-gives : goal.ascription_row-returns-in_err-found-clause-gives
ascription_row-returns-in_err-found-clause-gives g t c =
    passed _ _ _ _ c.from_residual.result c.in_err-found.field-0.0 c.from_residual.ensures.1
    (switch-refused _ _ (locals c.args.scope.now) (mode_of c.args.mode) c.args.span _ _ c.in_err-found.ensures.gives)

pub ascription_row-returns-clause-gives : goal.ascription_row-returns-clause-gives
ascription_row-returns-clause-gives g t c =
    switch-gives _ _ (locals c.args.scope.now) (mode_of c.args.mode) c.args.span _ judged_as c.switch.result
    c.in_ok-found.ensures.gives c.switch.ensures.gives

-- ---- listed
pub listed-returns-in_err-exactly-clause-gives : goal.listed-returns-in_err-exactly-clause-gives
listed-returns-in_err-exactly-clause-gives g t c =
    let G = entries c.args.self.now.globals.now in
    let N = c.args.self.now.budget in
    let p = part c.args.sigma in
    let S = locals c.args.scope.now in
    let m = mode_of c.args.mode in
    let es = c.args.arguments.now in
    let sig = c.in_ok-signature.signature in
    let bs = sig.arguments.items in
    let a = c.in_ok-signature.ensures.arguments in
    let L = c.args.listed in
    let b : c.len.result ≡ length bs = search rules in
    let e = c.in_err-exactly.field-0.0 in
    passed _ _ _ _ c.from_residual-in_err-exactly.result e c.from_residual-in_err-exactly.ensures.1
    (listed-uncounted G p S N m c.args.span L es bs _ _ a b refl e
    (rw c.rule.ensures at c.in_err-exactly.ensures (env G) N))

pub listed-returns-in_err-uses-clause-gives : goal.listed-returns-in_err-uses-clause-gives
listed-returns-in_err-uses-clause-gives g t c =
    let G = entries c.args.self.now.globals.now in
    let N = c.args.self.now.budget in
    let p = part c.args.sigma in
    let S = locals c.args.scope.now in
    let m = mode_of c.args.mode in
    let es = c.args.arguments.now in
    let sig = c.in_ok-signature.signature in
    let bs = sig.arguments.items in
    let a = c.in_ok-signature.ensures.arguments in
    let L = c.args.listed in
    let b : c.len.result ≡ length bs = search rules in
    let e = c.in_err-uses.field-0.0 in
    passed _ _ _ _ c.from_residual-in_err-uses.result e c.from_residual-in_err-uses.ensures.1
    (listed-untaken G p S N m c.args.span L es bs _ _ a b refl
    (rw c.rule.ensures at c.in_ok-exactly.ensures (env G) N) c.new-values.result.items c.new-values.ensures.items e
    (rw c.deref.ensures.value at c.in_err-uses.ensures.gives))

pub listed-returns-clause-gives : goal.listed-returns-clause-gives
listed-returns-clause-gives g t c =
    let G = entries c.args.self.now.globals.now in
    let N = c.args.self.now.budget in
    let p = part c.args.sigma in
    let S = locals c.args.scope.now in
    let m = mode_of c.args.mode in
    let es = c.args.arguments.now in
    let sig = c.in_ok-signature.signature in
    let bs = sig.arguments.items in
    let a = c.in_ok-signature.ensures.arguments in
    let L = c.args.listed in
    let b : c.len.result ≡ length bs = search rules in
    listed-taken G p S N m c.args.span L es bs _ _ a b refl
    (rw c.rule.ensures at c.in_ok-exactly.ensures (env G) N) c.new-values.result.items c.new-values.ensures.items
    judged_as c.switch.result c.arguments.new.values.items c.in_ok-uses.uses sig.ty (judged_as c.in_ok-found.found)
    c.in_ok-signature.ensures.ty (rw c.deref.ensures.value at c.in_ok-uses.ensures.gives)
    c.in_ok-found.ensures.gives c.switch.ensures.gives

-- ---- found_constructor
pub found_constructor-returns-then-made-ne0-clause-gives : goal.found_constructor-returns-then-made-ne0-clause-gives
found_constructor-returns-then-made-ne0-clause-gives g t c =
    let G = entries c.args.self.now.globals.now in
    let N = c.args.self.now.budget in
    let p = part c.args.sigma in
    let S = locals c.args.scope.now in
    let es = c.args.arguments.now in
    let M = c.args.made in
    let made = c.requires in
    let s = c.args.span in
    let con = c.args.con in
    con-needs G p S N s con es M made (length M.fields.items)
    (length es) refl refl c.needs_type.result c.if-made-ne0.true c.needs_type.ensures

pub found_constructor-returns-in_err-exactly-clause-gives : goal.found_constructor-returns-in_err-exactly-clause-gives
found_constructor-returns-in_err-exactly-clause-gives g t c =
    let G = entries c.args.self.now.globals.now in
    let N = c.args.self.now.budget in
    let p = part c.args.sigma in
    let S = locals c.args.scope.now in
    let es = c.args.arguments.now in
    let M = c.args.made in
    let made = c.requires in
    let s = c.args.span in
    let con = c.args.con in
    let b : c.len.result ≡ length M.fields.items = search rules in
    let e = c.in_err-exactly.field-0.0 in
    passed _ _ _ _ c.from_residual.result e c.from_residual.ensures.1
    (con-uncounted G p S N s con es M made _ _ b refl c.if-made-ne0.false e
    (c.in_err-exactly.ensures (env G) N))

pub found_constructor-returns-in_err-uses-clause-gives : goal.found_constructor-returns-in_err-uses-clause-gives
found_constructor-returns-in_err-uses-clause-gives g t c =
    let G = entries c.args.self.now.globals.now in
    let N = c.args.self.now.budget in
    let p = part c.args.sigma in
    let S = locals c.args.scope.now in
    let es = c.args.arguments.now in
    let M = c.args.made in
    let made = c.requires in
    let s = c.args.span in
    let con = c.args.con in
    let b : c.len.result ≡ length M.fields.items = search rules in
    let e = c.in_err-uses.field-0.0 in
    passed _ _ _ _ c.from_residual-in_err-uses.result e c.from_residual-in_err-uses.ensures.1
    (con-untaken G p S N s con es M made _ _ b refl c.if-made-ne0.false (c.in_ok-exactly.ensures (env G) N)
    c.new-values.result.items c.new-values.ensures.items e
    (rw c.deref.ensures.value at c.in_err-uses.ensures.gives))

pub found_constructor-returns-clause-gives : goal.found_constructor-returns-clause-gives
found_constructor-returns-clause-gives g t c =
    let G = entries c.args.self.now.globals.now in
    let N = c.args.self.now.budget in
    let p = part c.args.sigma in
    let S = locals c.args.scope.now in
    let es = c.args.arguments.now in
    let M = c.args.made in
    let made = c.requires in
    let s = c.args.span in
    let con = c.args.con in
    let b : c.len.result ≡ length M.fields.items = search rules in
    reached
    (con-taken G p S N s con es M made _ _ b refl c.if-made-ne0.false (c.in_ok-exactly.ensures (env G) N)
    c.new-values.result.items c.new-values.ensures.items c.arguments.new.values.items c.in_ok-uses.uses
    (rw c.deref.ensures.value at c.in_ok-uses.ensures.gives))
    (same-judged (sym (rw c.deref-2.ensures.value at c.in_ok-ty.ensures)) (sym c.in_ok-core.ensures) refl)

-- ---- checked_constructor
pub checked_constructor-returns-in_err-values-clause-gives : goal.checked_constructor-returns-in_err-values-clause-gives
checked_constructor-returns-in_err-values-clause-gives g t c =
    let G = entries c.args.self.now.globals.now in
    let N = c.args.self.now.budget in
    let p = part c.args.sigma in
    let S = locals c.args.scope.now in
    let es = c.args.arguments.now in
    let M = c.args.made in
    let made = c.requires in
    let s = c.args.span in
    let con = c.args.con in
    let e = c.in_err-values.field-0.0 in
    passed _ _ _ _ c.from_residual.result e c.from_residual.ensures.1
    (check-other G p S N s con es M made (length M.fields.items) (length es) refl refl
    (term c.args.ty) e c.in_err-values.ensures)

pub checked_constructor-returns-in_err-exactly-clause-gives :
    goal.checked_constructor-returns-in_err-exactly-clause-gives
checked_constructor-returns-in_err-exactly-clause-gives g t c =
    let G = entries c.args.self.now.globals.now in
    let N = c.args.self.now.budget in
    let p = part c.args.sigma in
    let S = locals c.args.scope.now in
    let es = c.args.arguments.now in
    let M = c.args.made in
    let made = c.requires in
    let s = c.args.span in
    let con = c.args.con in
    let b : c.len.result ≡ length M.fields.items = search rules in
    let A = term c.args.ty in
    let xs = c.in_ok-values.values.items in
    let e = c.in_err-exactly.field-0.0 in
    passed _ _ _ _ c.from_residual-in_err-exactly.result e c.from_residual-in_err-exactly.ensures.1
    (check-uncounted G p S N s con es M made _ _ b refl A xs c.in_ok-values.ensures e
    (c.in_err-exactly.ensures (env G) N))

pub checked_constructor-returns-in_err-uses-clause-gives : goal.checked_constructor-returns-in_err-uses-clause-gives
checked_constructor-returns-in_err-uses-clause-gives g t c =
    let G = entries c.args.self.now.globals.now in
    let N = c.args.self.now.budget in
    let p = part c.args.sigma in
    let S = locals c.args.scope.now in
    let es = c.args.arguments.now in
    let M = c.args.made in
    let made = c.requires in
    let s = c.args.span in
    let con = c.args.con in
    let b : c.len.result ≡ length M.fields.items = search rules in
    let A = term c.args.ty in
    let xs = c.in_ok-values.values.items in
    let v = c.truncate.ensures.items in
    let e = c.in_err-uses.field-0.0 in
    passed _ _ _ _ c.from_residual-in_err-uses.result e c.from_residual-in_err-uses.ensures.1
    (check-untaken G p S N s con es M made _ _ b refl A xs c.in_ok-values.ensures
    (c.in_ok-exactly.ensures (env G) N) c.truncate.new.self.items v e
    (rw c.deref.ensures.value at c.in_err-uses.ensures.gives))

pub checked_constructor-returns-in_err-agree-clause-gives : goal.checked_constructor-returns-in_err-agree-clause-gives
checked_constructor-returns-in_err-agree-clause-gives g t c =
    let G = entries c.args.self.now.globals.now in
    let N = c.args.self.now.budget in
    let p = part c.args.sigma in
    let S = locals c.args.scope.now in
    let es = c.args.arguments.now in
    let M = c.args.made in
    let made = c.requires in
    let s = c.args.span in
    let con = c.args.con in
    let b : c.len.result ≡ length M.fields.items = search rules in
    let A = term c.args.ty in
    let xs = c.in_ok-values.values.items in
    let v = c.truncate.ensures.items in
    let e = c.in_err-agree.field-0.0 in
    passed _ _ _ _ c.from_residual-in_err-agree.result e c.from_residual-in_err-agree.ensures.1
    (check-differs G p S N s con es M made _ _ b refl A xs c.in_ok-values.ensures
    (c.in_ok-exactly.ensures (env G) N) c.truncate.new.self.items v c.arguments.new.values.items c.in_ok-uses.uses
    (rw c.deref.ensures.value at c.in_ok-uses.ensures.gives) (term c.in_ok-found.found)
    (rw c.deref-2.ensures.value at c.in_ok-found.ensures) e c.in_err-agree.ensures)

pub checked_constructor-returns-clause-gives : goal.checked_constructor-returns-clause-gives
checked_constructor-returns-clause-gives g t c =
    let G = entries c.args.self.now.globals.now in
    let N = c.args.self.now.budget in
    let p = part c.args.sigma in
    let S = locals c.args.scope.now in
    let es = c.args.arguments.now in
    let M = c.args.made in
    let made = c.requires in
    let s = c.args.span in
    let con = c.args.con in
    let b : c.len.result ≡ length M.fields.items = search rules in
    let A = term c.args.ty in
    let xs = c.in_ok-values.values.items in
    let v = c.truncate.ensures.items in
    reached
    (check-taken G p S N s con es M made _ _ b refl A xs c.in_ok-values.ensures
    (c.in_ok-exactly.ensures (env G) N) c.truncate.new.self.items v c.arguments.new.values.items c.in_ok-uses.uses
    (rw c.deref.ensures.value at c.in_ok-uses.ensures.gives) (term c.in_ok-found.found)
    (rw c.deref-2.ensures.value at c.in_ok-found.ensures) c.in_ok-agree.ensures)
    (same-judged refl (sym c.in_ok-core.ensures) refl)

-- ---- pure
pub pure-returns-in-Synth-clause-gives : goal.pure-returns-in-Synth-clause-gives
pure-returns-in-Synth-clause-gives g t c =
    let G = entries c.args.self.now.globals.now in
    let N = c.args.self.now.budget in
    let p = part c.args.sigma in
    let S = locals c.args.scope.now in
    let W = written G p S (argument_trees c.args.arguments.now) in
    let s = c.args.span in
    let e = c.needs_type.result in
    subst (λ m. Refuses (env G) N (pure_row S m s (io c.args.kind) W) e) (sym (ap mode_of c.in-Synth.is))
    (refuse-told (env G) N Cause.needs_type (at s rule.Pure 1) e c.needs_type.ensures)

pub pure-returns-in_err-of-in-Check-clause-gives : goal.pure-returns-in_err-of-in-Check-clause-gives
pure-returns-in_err-of-in-Check-clause-gives g t c =
    let G = entries c.args.self.now.globals.now in
    let N = c.args.self.now.budget in
    let p = part c.args.sigma in
    let S = locals c.args.scope.now in
    let es = c.args.arguments.now in
    let W = written G p S (argument_trees es) in
    let s = c.args.span in
    let i = io c.args.kind in
    let A = term c.in-Check.ty in
    let M = λ (m : Mode). pure_row S m s i W in
    let turn = sym (ap mode_of c.in-Check.is) in
    let e = c.in_err-of-in-Check.field-0.0 in
    passed _ _ _ _ c.from_residual.result e c.from_residual.ensures.1
    (subst (λ m. Refuses (env G) N (M m) e) turn (here _ _ _ _ _ c.in_err-of-in-Check.ensures))

pub pure-returns-in_err-exactly-in-Check-clause-gives : goal.pure-returns-in_err-exactly-in-Check-clause-gives
pure-returns-in_err-exactly-in-Check-clause-gives g t c =
    let G = entries c.args.self.now.globals.now in
    let N = c.args.self.now.budget in
    let p = part c.args.sigma in
    let S = locals c.args.scope.now in
    let es = c.args.arguments.now in
    let W = written G p S (argument_trees es) in
    let s = c.args.span in
    let i = io c.args.kind in
    let A = term c.in-Check.ty in
    let M = λ (m : Mode). pure_row S m s i W in
    let turn = sym (ap mode_of c.in-Check.is) in
    let count = exactly-is G p S es 1 1 (length es) (at s rule.Pure 3) refl refl in
    let e = c.in_err-exactly-in-Check.field-0.0 in
    passed _ _ _ _ c.from_residual-in_err-exactly-in-Check.result e
    c.from_residual-in_err-exactly-in-Check.ensures.1
    (subst (λ m. Refuses (env G) N (M m) e) turn
    (later _ _ _ _ _ c.in_ok-of-in-Check.ensures
    (here _ _ _ _ _ (same-refusal (env G) N _ _ e count (c.in_err-exactly-in-Check.ensures (env G) N)))))

pub pure-returns-in_err-uses-in-Check-clause-gives : goal.pure-returns-in_err-uses-in-Check-clause-gives
pure-returns-in_err-uses-in-Check-clause-gives g t c =
    let G = entries c.args.self.now.globals.now in
    let N = c.args.self.now.budget in
    let p = part c.args.sigma in
    let S = locals c.args.scope.now in
    let es = c.args.arguments.now in
    let W = written G p S (argument_trees es) in
    let s = c.args.span in
    let i = io c.args.kind in
    let A = term c.in-Check.ty in
    let M = λ (m : Mode). pure_row S m s i W in
    let turn = sym (ap mode_of c.in-Check.is) in
    let count = exactly-is G p S es 1 1 (length es) (at s rule.Pure 3) refl refl in
    let B = c.in_ok-of-in-Check.of in
    let q = c.mult_after.result in
    let vs = c.in_ok-values-in-Check.values.items in
    let v : vs ≡ B ∷ [] = search rules in
    let asks = asked-so G p S es ((q, form.Var 0) ∷ []) vs ((mult_of i, var 0) ∷ []) (term B ▸ ε)
    (ap₂ (λ q t. (q, t) ∷ []) c.mult_after.ensures (var-seen 0)) (ap (λ vs. side_by_side (terms vs)) v) in
    let e = c.in_err-uses-in-Check.field-0.0 in
    passed _ _ _ _ c.from_residual-in_err-uses-in-Check.result e
    c.from_residual-in_err-uses-in-Check.ensures.1
    (subst (λ m. Refuses (env G) N (M m) e) turn
    (later _ _ _ _ _ c.in_ok-of-in-Check.ensures
    (later _ _ _ _ _ (same-answer _ _ tt count (c.in_ok-exactly-in-Check.ensures (env G) N))
    (here _ _ _ _ _ (subst (λ m. Refuses (env G) N m e) asks c.in_err-uses-in-Check.ensures.gives)))))

pub pure-returns-in_ok-core-in-Check-clause-gives : goal.pure-returns-in_ok-core-in-Check-clause-gives
pure-returns-in_ok-core-in-Check-clause-gives g t c =
    let G = entries c.args.self.now.globals.now in
    let N = c.args.self.now.budget in
    let p = part c.args.sigma in
    let S = locals c.args.scope.now in
    let es = c.args.arguments.now in
    let W = written G p S (argument_trees es) in
    let s = c.args.span in
    let i = io c.args.kind in
    let A = term c.in-Check.ty in
    let M = λ (m : Mode). pure_row S m s i W in
    let turn = sym (ap mode_of c.in-Check.is) in
    let count = exactly-is G p S es 1 1 (length es) (at s rule.Pure 3) refl refl in
    let B = c.in_ok-of-in-Check.of in
    let q = c.mult_after.result in
    let vs = c.in_ok-values-in-Check.values.items in
    let v : vs ≡ B ∷ [] = search rules in
    let asks = asked-so G p S es ((q, form.Var 0) ∷ []) vs ((mult_of i, var 0) ∷ []) (term B ▸ ε)
    (ap₂ (λ q t. (q, t) ∷ []) c.mult_after.ensures (var-seen 0)) (ap (λ vs. side_by_side (terms vs)) v) in
    let us = c.in_ok-uses-in-Check.uses in
    let ws = c.arguments.new.values.items in
    let t = took (env G) N _ _ vs ws (term B ▸ ε) us asks (ap (λ vs. side_by_side (terms vs)) v)
    c.in_ok-uses-in-Check.ensures.gives in
    subst (λ m. Reaches (env G) N (M m) (judged A (term c.in_ok-core-in-Check.core) us)) turn
    (reached
    (on _ c.in_ok-of-in-Check.ensures
    (on _ (same-answer _ _ tt count (c.in_ok-exactly-in-Check.ensures (env G) N)) (on _ t.reaches on_done)))
    (same-judged refl (ap (Act (Action.pure i) 1) (sym t.cores) ∙ sym c.in_ok-core-in-Check.ensures) (sym t.uses)))

-- ---- arguments
pub arguments-returns-in-empty-clause-gives : goal.arguments-returns-in-empty-clause-gives
arguments-returns-in-empty-clause-gives g t c =
    let G = entries c.args.self.now.globals.now in
    let N = c.args.self.now.budget in
    let p = part c.args.sigma in
    let S = locals c.args.scope.now in
    let bs = c.args.binders.now in
    let es = c.args.arguments.now in
    let vs = c.args.values.now.items in
    let A = argument_trees es in
    let r = c.unused.result in
    subst (λ bs. Filling (env G) N (arguments G p S (tele bs) (filled vs) A) vs vs r)
    (sym (nothing-in bs c.in-empty.len_below))
    (fill-unused (env G) N (arguments G p S [] (filled vs) A) vs vs S r
    (λ us e. filled-empty G p S N (filled vs) A vs us e) c.unused.ensures.gives)

pub arguments-returns-in-empty-arguments-clause-gives : goal.arguments-returns-in-empty-arguments-clause-gives
arguments-returns-in-empty-arguments-clause-gives g t c =
    let G = entries c.args.self.now.globals.now in
    let N = c.args.self.now.budget in
    let p = part c.args.sigma in
    let S = locals c.args.scope.now in
    let bs = c.args.binders.now in
    let es = c.args.arguments.now in
    let vs = c.args.values.now.items in
    let r = c.unused-in-empty-arguments.result in
    subst (λ es. Filling (env G) N (arguments G p S (tele bs) (filled vs) (argument_trees es)) vs vs r)
    (sym (nothing-in es c.in-empty-arguments.len_below))
    (fill-unused (env G) N (arguments G p S (tele bs) (filled vs) (argument_trees [])) vs vs S r
    (λ us e. filled-ended G p S N (tele bs) (filled vs) vs us e) c.unused-in-empty-arguments.ensures.gives)

pub arguments-returns-in_err-found-in-len1-up-arguments-clause-gives :
    goal.arguments-returns-in_err-found-in-len1-up-arguments-clause-gives
arguments-returns-in_err-found-in-len1-up-arguments-clause-gives g t c =
    let G = entries c.args.self.now.globals.now in
    let N = c.args.self.now.budget in
    let p = part c.args.sigma in
    let S = locals c.args.scope.now in
    let bs = c.args.binders.now in
    let es = c.args.arguments.now in
    let vs = c.args.values.now.items in
    let rs = take (length bs - 1) (drop 1 bs) in
    let ss = take (length es - 1) (drop 1 es) in
    let b = c.binder-item.result in
    let x = c.first-item.result in
    let B = first-in bs b c.in-len1-up.len_at_least c.binder-item.is in
    let X = first-in es x c.in-len1-up-arguments.len_at_least c.first-item.is in
    let e = c.in_err-found-in-len1-up-arguments.field-0.0 in
    fill-passed (env G) N (arguments G p S (tele bs) (filled vs) (argument_trees es)) vs vs c.from_residual.result e
    c.from_residual.ensures.1
    (whole-first G p S N bs rs es ss vs b x B X e
    (rw c.deref.ensures.value at c.in_err-found-in-len1-up-arguments.ensures.gives))

pub arguments-returns-in_err-more-in-len1-up-arguments-clause-gives :
    goal.arguments-returns-in_err-more-in-len1-up-arguments-clause-gives
arguments-returns-in_err-more-in-len1-up-arguments-clause-gives g t c =
    let G = entries c.args.self.now.globals.now in
    let N = c.args.self.now.budget in
    let p = part c.args.sigma in
    let S = locals c.args.scope.now in
    let bs = c.args.binders.now in
    let es = c.args.arguments.now in
    let vs = c.args.values.now.items in
    let rs = take (length bs - 1) (drop 1 bs) in
    let ss = take (length es - 1) (drop 1 es) in
    let b = c.binder-item.result in
    let x = c.first-item.result in
    let B = first-in bs b c.in-len1-up.len_at_least c.binder-item.is in
    let X = first-in es x c.in-len1-up-arguments.len_at_least c.first-item.is in
    let j = c.in_ok-found-in-len1-up-arguments.found in
    let h = rw c.deref.ensures.value at c.in_ok-found-in-len1-up-arguments.ensures.gives in
    let pushed = c.in_ok-push-in-len1-up-arguments.ensures.items in
    let e = c.in_err-more-in-len1-up-arguments.field-0.0 in
    fill-passed (env G) N (arguments G p S (tele bs) (filled vs) (argument_trees es)) vs c.arguments.new.values.items
    c.from_residual-in_err-more-in-len1-up-arguments.result e
    c.from_residual-in_err-more-in-len1-up-arguments.ensures.1
    (whole-rest G p S N bs rs es ss vs b x B X (judged_as j) j.core refl h e
    (subst (λ ws. Refuses (env G) N (arguments G p S (tele rs) (filled ws) (argument_trees ss)) e) pushed
    c.in_err-more-in-len1-up-arguments.ensures.gives))

pub arguments-returns-in_ok-more-in-len1-up-arguments-clause-gives :
    goal.arguments-returns-in_ok-more-in-len1-up-arguments-clause-gives
arguments-returns-in_ok-more-in-len1-up-arguments-clause-gives g t c =
    let G = entries c.args.self.now.globals.now in
    let N = c.args.self.now.budget in
    let p = part c.args.sigma in
    let S = locals c.args.scope.now in
    let bs = c.args.binders.now in
    let es = c.args.arguments.now in
    let vs = c.args.values.now.items in
    let rs = take (length bs - 1) (drop 1 bs) in
    let ss = take (length es - 1) (drop 1 es) in
    let b = c.binder-item.result in
    let x = c.first-item.result in
    let B = first-in bs b c.in-len1-up.len_at_least c.binder-item.is in
    let X = first-in es x c.in-len1-up-arguments.len_at_least c.first-item.is in
    let j = c.in_ok-found-in-len1-up-arguments.found in
    let h = rw c.deref.ensures.value at c.in_ok-found-in-len1-up-arguments.ensures.gives in
    let pushed = c.in_ok-push-in-len1-up-arguments.ensures.items in
    let more = c.in_ok-more-in-len1-up-arguments.more in
    let ws = c.arguments.new.values.items in
    whole-filled G p S N bs rs es ss vs b x B X (judged_as j) j.core refl h ws c.add.new.self more
    (c.add.ensures.uses ∙ ap (λ us. usage_sum us more) c.scale.ensures.uses)
    (subst (λ us. Filled (env G) N (arguments G p S (tele rs) (filled us) (argument_trees ss)) us ws more) pushed
    c.in_ok-more-in-len1-up-arguments.ensures.gives)

-- ---- applied
pub applied-returns-in-empty-clause-gives : goal.applied-returns-in-empty-clause-gives
applied-returns-in-empty-clause-gives g t c =
    let G = entries c.args.self.now.globals.now in
    let N = c.args.self.now.budget in
    let p = part c.args.sigma in
    let S = locals c.args.scope.now in
    let s = c.args.span in
    let f = judged_as c.args.left in
    let es = c.args.arguments.now in
    subst (λ es. Reaches (env G) N (applied G p S s f (argument_trees es)) f)
    (sym (nothing-in es c.in-empty.len_below)) on_done

pub applied-returns-in_err-function-in-len1-up-clause-gives :
    goal.applied-returns-in_err-function-in-len1-up-clause-gives
applied-returns-in_err-function-in-len1-up-clause-gives g t c =
    let G = entries c.args.self.now.globals.now in
    let N = c.args.self.now.budget in
    let p = part c.args.sigma in
    let S = locals c.args.scope.now in
    let s = c.args.span in
    let f = judged_as c.args.left in
    let es = c.args.arguments.now in
    let ss = take (length es - 1) (drop 1 es) in
    let x = c.first-item.result in
    let X = first-in es x c.in-len1-up.len_at_least c.first-item.is in
    let form = ap (λ es. applied G p S s f (argument_trees es)) X
    ∙ applied-more G p S s f (argument_of x) (argument_trees ss) in
    let e = c.in_err-function-in-len1-up.field-0.0 in
    passed _ _ _ _ c.from_residual.result e c.from_residual.ensures.1
    (same-refusal (env G) N _ (applied G p S s f (argument_trees es)) e form
    (here _ _ _ _ _ c.in_err-function-in-len1-up.ensures))

pub applied-returns-in_err-used-in-len1-up-clause-gives : goal.applied-returns-in_err-used-in-len1-up-clause-gives
applied-returns-in_err-used-in-len1-up-clause-gives g t c =
    let G = entries c.args.self.now.globals.now in
    let N = c.args.self.now.budget in
    let p = part c.args.sigma in
    let S = locals c.args.scope.now in
    let s = c.args.span in
    let f = judged_as c.args.left in
    let es = c.args.arguments.now in
    let ss = take (length es - 1) (drop 1 es) in
    let x = c.first-item.result in
    let X = first-in es x c.in-len1-up.len_at_least c.first-item.is in
    let form = ap (λ es. applied G p S s f (argument_trees es)) X
    ∙ applied-more G p S s f (argument_of x) (argument_trees ss) in
    let e = c.in_err-used-in-len1-up.field-0.0 in
    passed _ _ _ _ c.from_residual-in_err-used-in-len1-up.result e c.from_residual-in_err-used-in-len1-up.ensures.1
    (same-refusal (env G) N _ (applied G p S s f (argument_trees es)) e form
    (later _ _ _ _ _ c.in_ok-function-in-len1-up.ensures
    (here _ _ _ _ _ (rw (c.under-inside.ensures, c.expression.ensures) at c.in_err-used-in-len1-up.ensures.gives))))

pub applied-returns-in_ok-next-in-len1-up-clause-gives : goal.applied-returns-in_ok-next-in-len1-up-clause-gives
applied-returns-in_ok-next-in-len1-up-clause-gives g t c =
    let G = entries c.args.self.now.globals.now in
    let N = c.args.self.now.budget in
    let p = part c.args.sigma in
    let S = locals c.args.scope.now in
    let s = c.args.span in
    let f = judged_as c.args.left in
    let es = c.args.arguments.now in
    let ss = take (length es - 1) (drop 1 es) in
    let x = c.first-item.result in
    let X = first-in es x c.in-len1-up.len_at_least c.first-item.is in
    let form = ap (λ es. applied G p S s f (argument_trees es)) X
    ∙ applied-more G p S s f (argument_of x) (argument_trees ss) in
    let r = c.applied.result in
    same (env G) N _ (applied G p S s f (argument_trees es)) judged_as r form
    (tail _ _ _ _ judged_as r c.in_ok-function-in-len1-up.ensures
    (tail _ _ _ _ judged_as r
    (rw (c.under-inside.ensures, c.expression.ensures) at c.in_ok-used-in-len1-up.ensures.gives)
    (subst (λ j. Gives (env G) N (applied G p S s j (argument_trees ss)) judged_as r)
    c.in_ok-next-in-len1-up.ensures.gives c.applied.ensures.gives)))

-- ---- application
pub application-returns-in_err-left-clause-gives : goal.application-returns-in_err-left-clause-gives
application-returns-in_err-left-clause-gives g t c =
    passed _ _ _ _ c.from_residual.result c.in_err-left.field-0.0 c.from_residual.ensures.1
    (switch-refused _ _ (locals c.args.scope.now) (mode_of c.args.mode) c.args.span _ _
    (here _ _ _ _ _ c.in_err-left.ensures.gives))

pub application-returns-in_err-found-clause-gives : goal.application-returns-in_err-found-clause-gives
application-returns-in_err-found-clause-gives g t c =
    passed _ _ _ _ c.from_residual-in_err-found.result c.in_err-found.field-0.0 c.from_residual-in_err-found.ensures.1
    (switch-refused _ _ (locals c.args.scope.now) (mode_of c.args.mode) c.args.span _ _
    (later _ _ _ _ _ c.in_ok-left.ensures.gives c.in_err-found.ensures.gives))

pub application-returns-clause-gives : goal.application-returns-clause-gives
application-returns-clause-gives g t c =
    switch-gives _ _ (locals c.args.scope.now) (mode_of c.args.mode) c.args.span _ judged_as c.switch.result
    (on _ c.in_ok-left.ensures.gives c.in_ok-found.ensures.gives) c.switch.ensures.gives

-- ---- lambda_row
pub lambda_row-returns-then-not-all_typed-clause-gives : goal.lambda_row-returns-then-not-all_typed-clause-gives
lambda_row-returns-then-not-all_typed-clause-gives g t c =
    let G = entries c.args.self.now.globals.now in
    let N = c.args.self.now.budget in
    let p = part c.args.sigma in
    let S = locals c.args.scope.now in
    let e = lambda (binder_trees c.args.binders.now) (tree_of c.args.body.now) c.args.span in
    subst (λ m. Refuses (env G) N (judge G p S m e) c.needs_type.result) (sym (ap mode_of c.in-Synth.is))
    (told _ _ _ _ _ c.needs_type.result
    (fails_here _ (unmet _ _ _ (sym c.all_typed.ensures ∙ c.if-not-all_typed.true))) c.needs_type.ensures)

pub lambda_row-returns-else-not-all_typed-clause-gives : goal.lambda_row-returns-else-not-all_typed-clause-gives
lambda_row-returns-else-not-all_typed-clause-gives g t c =
    let G = entries c.args.self.now.globals.now in
    let N = c.args.self.now.budget in
    let p = part c.args.sigma in
    let S = locals c.args.scope.now in
    let e = lambda (binder_trees c.args.binders.now) (tree_of c.args.body.now) c.args.span in
    subst (λ m. Gives (env G) N (judge G p S m e) judged_as c.found_function.result) (sym (ap mode_of c.in-Synth.is))
    (tail _ _ _ _ judged_as c.found_function.result
    (holds _ _ _ (sym c.all_typed.ensures ∙ c.if-not-all_typed.false)) c.found_function.ensures.gives)

-- ---- found_binder
pub found_binder-returns-in-Plain-clause-gives : goal.found_binder-returns-in-Plain-clause-gives
found_binder-returns-in-Plain-clause-gives g t c =
    let G = entries c.args.self.now.globals.now in
    let N = c.args.self.now.budget in
    let p = part c.args.sigma in
    let S = locals c.args.scope.now in
    let ts = binder_trees c.args.rest.now in
    let body = tree_of c.args.body.now in
    let e = c.needs_type.result in
    subst (λ b. Refuses (env G) N
    (synthesised_lambda G p S (binder_and (binder_of b) ts) (λ T. judge G p T Mode.synth body)) e) (sym c.in-Plain.is)
    (refuse-told (env G) N _ _ e c.needs_type.ensures)

pub found_binder-returns-in_err-domain-in-Typed-clause-gives :
    goal.found_binder-returns-in_err-domain-in-Typed-clause-gives
found_binder-returns-in_err-domain-in-Typed-clause-gives g t c =
    let G = entries c.args.self.now.globals.now in
    let N = c.args.self.now.budget in
    let p = part c.args.sigma in
    let S = locals c.args.scope.now in
    let ts = binder_trees c.args.rest.now in
    let body = tree_of c.args.body.now in
    let e = c.in_err-domain-in-Typed.field-0.0 in
    passed _ _ _ _ c.from_residual.result e c.from_residual.ensures.1
    (subst (λ b. Refuses (env G) N
    (synthesised_lambda G p S (binder_and (binder_of b) ts) (λ T. judge G p T Mode.synth body)) e) (sym c.in-Typed.is)
    (here _ _ _ _ _ c.in_err-domain-in-Typed.ensures))

pub found_binder-returns-in_err-body-in-Typed-clause-gives : goal.found_binder-returns-in_err-body-in-Typed-clause-gives
found_binder-returns-in_err-body-in-Typed-clause-gives g t c =
    let G = entries c.args.self.now.globals.now in
    let N = c.args.self.now.budget in
    let p = part c.args.sigma in
    let S = locals c.args.scope.now in
    let ts = binder_trees c.args.rest.now in
    let body = tree_of c.args.body.now in
    let e = c.in_err-body-in-Typed.field-0.0 in
    passed _ _ _ _ c.from_residual-in_err-body-in-Typed.result e c.from_residual-in_err-body-in-Typed.ensures.1
    (subst (λ b. Refuses (env G) N
    (synthesised_lambda G p S (binder_and (binder_of b) ts) (λ T. judge G p T Mode.synth body)) e) (sym c.in-Typed.is)
    (later _ _ _ _ _ c.in_ok-domain-in-Typed.ensures (here _ _ _ _ _ c.in_err-body-in-Typed.ensures.gives)))

pub found_binder-returns-in_ok-body-in-Typed-clause-gives : goal.found_binder-returns-in_ok-body-in-Typed-clause-gives
found_binder-returns-in_ok-body-in-Typed-clause-gives g t c =
    let G = entries c.args.self.now.globals.now in
    let N = c.args.self.now.budget in
    let p = part c.args.sigma in
    let S = locals c.args.scope.now in
    let ts = binder_trees c.args.rest.now in
    let body = tree_of c.args.body.now in
    let r = c.found_lambda.result in
    subst (λ b. Gives (env G) N
    (synthesised_lambda G p S (binder_and (binder_of b) ts) (λ T. judge G p T Mode.synth body)) judged_as r)
    (sym c.in-Typed.is)
    (tail _ _ _ _ judged_as r c.in_ok-domain-in-Typed.ensures
    (tail _ _ _ _ judged_as r c.in_ok-body-in-Typed.ensures.gives c.found_lambda.ensures.gives))

-- ---- checked_binder
pub checked_binder-returns-in_err-function-clause-gives : goal.checked_binder-returns-in_err-function-clause-gives
checked_binder-returns-in_err-function-clause-gives g t c =
    passed _ _ _ _ c.from_residual.result c.in_err-function.field-0.0 c.from_residual.ensures.1
    (here _ _ _ _ _ c.in_err-function.ensures)

pub checked_binder-returns-in_err-written_domain-clause-gives :
    goal.checked_binder-returns-in_err-written_domain-clause-gives
checked_binder-returns-in_err-written_domain-clause-gives g t c =
    passed _ _ _ _ c.from_residual-in_err-written_domain.result c.in_err-written_domain.field-0.0
    c.from_residual-in_err-written_domain.ensures.1
    (later _ _ _ _ _ c.in_ok-function.ensures (here _ _ _ _ _ c.in_err-written_domain.ensures))

pub checked_binder-returns-in_err-body-clause-gives : goal.checked_binder-returns-in_err-body-clause-gives
checked_binder-returns-in_err-body-clause-gives g t c =
    passed _ _ _ _ c.from_residual-in_err-body.result c.in_err-body.field-0.0
    c.from_residual-in_err-body.ensures.1
    (later _ _ _ _ _ c.in_ok-function.ensures (later _ _ _ _ _ c.in_ok-written_domain.ensures
    (here _ _ _ _ _ c.in_err-body.ensures.gives)))

pub checked_binder-returns-clause-gives : goal.checked_binder-returns-clause-gives
checked_binder-returns-clause-gives g t c =
    tail _ _ _ _ judged_as c.checked_lambda.result c.in_ok-function.ensures
    (tail _ _ _ _ judged_as c.checked_lambda.result c.in_ok-written_domain.ensures
    (tail _ _ _ _ judged_as c.checked_lambda.result c.in_ok-body.ensures.gives c.checked_lambda.ensures.gives))

-- ---- written_domain
pub written_domain-returns-in-Plain : goal.written_domain-returns-in-Plain
written_domain-returns-in-Plain g t c =
    let G = entries c.args.self.now.globals.now in
    let N = c.args.self.now.budget in
    let S = locals c.args.scope.now in
    let F = function_as c.args.function.now in
    subst (λ b. Reaches (env G) N (written_domain G S c.args.span F (binder_of b)) tt) (sym c.in-Plain.is) on_done

pub written_domain-returns-then-not-same_mult : goal.written_domain-returns-then-not-same_mult
written_domain-returns-then-not-same_mult g t c =
    let G = entries c.args.self.now.globals.now in
    let N = c.args.self.now.budget in
    let S = locals c.args.scope.now in
    let s = c.args.span in
    let F = function_as c.args.function.now in
    subst (λ b. Fails (env G) N (written_domain G S s F (binder_of b)) (Cause.wrong_quantity F.mult c.in-Typed.mult)
    (at s rule.LamCheck 2)) (sym c.in-Typed.is)
    (fails_here _ (unmet _ _ _ (sym c.same_mult.ensures ∙ c.if-not-same_mult.true)))

pub written_domain-returns-in_err-written-in-Typed : goal.written_domain-returns-in_err-written-in-Typed
written_domain-returns-in_err-written-in-Typed g t c =
    let G = entries c.args.self.now.globals.now in
    let N = c.args.self.now.budget in
    let S = locals c.args.scope.now in
    let s = c.args.span in
    let F = function_as c.args.function.now in
    let e = c.in_err-written-in-Typed.field-0.0 in
    passed _ _ _ _ c.from_residual.result e c.from_residual.ensures.1
    (subst (λ b. Refuses (env G) N (written_domain G S s F (binder_of b)) e) (sym c.in-Typed.is)
    (later _ _ _ _ _ (holds _ _ _ (sym c.same_mult.ensures ∙ c.if-not-same_mult.false))
    (here _ _ _ _ _ c.in_err-written-in-Typed.ensures)))

pub written_domain-returns-in_ok-written-in-Typed : goal.written_domain-returns-in_ok-written-in-Typed
written_domain-returns-in_ok-written-in-Typed g t c =
    let G = entries c.args.self.now.globals.now in
    let N = c.args.self.now.budget in
    let S = locals c.args.scope.now in
    let s = c.args.span in
    let F = function_as c.args.function.now in
    let r = c.agree.result in
    subst (λ b. Gives (env G) N (written_domain G S s F (binder_of b)) (λ u. u) r) (sym c.in-Typed.is)
    (tail _ _ _ _ (λ u. u) r (holds _ _ _ (sym c.same_mult.ensures ∙ c.if-not-same_mult.false))
    (tail _ _ _ _ (λ u. u) r c.in_ok-written-in-Typed.ensures c.agree.ensures))

-- ---- let_row
pub let_row-returns-in_err-value-clause-gives : goal.let_row-returns-in_err-value-clause-gives
let_row-returns-in_err-value-clause-gives g t c =
    λ s.
    passed _ _ _ _ c.from_residual.result c.in_err-value.field-0.0 c.from_residual.ensures.1
    (here _ _ _ _ _ (rw c.under-inside.ensures at c.in_err-value.ensures.gives))

pub let_row-returns-in_err-body-clause-gives : goal.let_row-returns-in_err-body-clause-gives
let_row-returns-in_err-body-clause-gives g t c =
    λ s.
    passed _ _ _ _ c.from_residual-in_err-body.result c.in_err-body.field-0.0
    c.from_residual-in_err-body.ensures.1
    (later _ _ _ _ _ (rw c.under-inside.ensures at c.in_ok-value.ensures.gives)
    (here _ _ _ _ _ (rw c.in_ok-lifted.ensures at c.in_err-body.ensures.gives)))

pub let_row-returns-clause-gives : goal.let_row-returns-clause-gives
let_row-returns-clause-gives g t c =
    λ s.
    tail _ _ _ _ judged_as c.let_end.result (rw c.under-inside.ensures at c.in_ok-value.ensures.gives)
    (tail _ _ _ _ judged_as c.let_end.result (rw c.in_ok-lifted.ensures at c.in_ok-body.ensures.gives)
    c.let_end.ensures.gives)

-- ---- statements
pub statements-returns-in-len1-clause-gives : goal.statements-returns-in-len1-clause-gives
statements-returns-in-len1-clause-gives g t c =
    let G = entries c.args.self.now.globals.now in
    let N = c.args.self.now.budget in
    let p = part c.args.sigma in
    let S = locals c.args.scope.now in
    let m = mode_of c.args.mode in
    let ss = c.args.statements.now in
    let r = c.last.result in
    subst (λ ss. Gives (env G) N (statements G p S m c.args.span (statement_trees ss)) judged_as r)
    (sym (only-in ss c.last-item.result c.in-len1.len_at_least c.in-len1.len_below c.last-item.is))
    (c.last.ensures.gives c.args.span)

-- ---- statement
pub statement-returns-in-Run-clause-gives : goal.statement-returns-in-Run-clause-gives
statement-returns-in-Run-clause-gives g t c =
    let G = entries c.args.self.now.globals.now in
    let N = c.args.self.now.budget in
    let p = part c.args.sigma in
    let S = locals c.args.scope.now in
    let m = mode_of c.args.mode in
    let s = c.args.span in
    let ts = c.args.rest.now in
    let r = c.bind_row.result in
    subst (λ t. Gives (env G) N (statements G p S m s (statement_and (statement_of t)
    (statement_trees ts))) judged_as r)
    (sym c.in-Run.is)
    (same (env G) N _ _ judged_as r (run-before G p S m s c.in-Run.span
    (tree_of c.in-Run.value) ts c.requires) c.bind_row.ensures.gives)

pub statement-returns-in-Bind-clause-gives : goal.statement-returns-in-Bind-clause-gives
statement-returns-in-Bind-clause-gives g t c =
    let G = entries c.args.self.now.globals.now in
    let N = c.args.self.now.budget in
    let p = part c.args.sigma in
    let S = locals c.args.scope.now in
    let m = mode_of c.args.mode in
    let s = c.args.span in
    let ts = c.args.rest.now in
    let r = c.bind_row-in-Bind.result in
    subst (λ t. Gives (env G) N (statements G p S m s (statement_and (statement_of t)
    (statement_trees ts))) judged_as r)
    (sym c.in-Bind.is)
    (same (env G) N _ _ judged_as r (bind-before G p S m s _ _ ts c.requires) c.bind_row-in-Bind.ensures.gives)

pub statement-returns-in-Let-clause-gives : goal.statement-returns-in-Let-clause-gives
statement-returns-in-Let-clause-gives g t c =
    let G = entries c.args.self.now.globals.now in
    let N = c.args.self.now.budget in
    let p = part c.args.sigma in
    let S = locals c.args.scope.now in
    let m = mode_of c.args.mode in
    let s = c.args.span in
    let ts = c.args.rest.now in
    let r = c.let_statement.result in
    subst (λ t. Gives (env G) N (statements G p S m s (statement_and (statement_of t)
    (statement_trees ts))) judged_as r)
    (sym c.in-Let.is)
    (same (env G) N _ _ judged_as r
    (ap (λ t. statements G p S m s (statement_and t (statement_trees ts)))
    (local_view c.in-Let.mult c.in-Let.name c.in-Let.ty c.in-Let.value c.in-Let.span)
    ∙ let-before G p S m s c.in-Let.span c.in-Let.mult c.in-Let.name (written_type c.in-Let.ty)
    (tree_of c.in-Let.value) ts c.requires) c.let_statement.ensures.gives)

-- ---- let_statement
pub let_statement-returns-in_err-value-clause-gives : goal.let_statement-returns-in_err-value-clause-gives
let_statement-returns-in_err-value-clause-gives g t c =
    passed _ _ _ _ c.from_residual.result c.in_err-value.field-0.0 c.from_residual.ensures.1
    (here _ _ _ _ _ (rw c.under-inside.ensures at c.in_err-value.ensures.gives))

pub let_statement-returns-in_err-body-clause-gives : goal.let_statement-returns-in_err-body-clause-gives
let_statement-returns-in_err-body-clause-gives g t c =
    passed _ _ _ _ c.from_residual-in_err-body.result c.in_err-body.field-0.0
    c.from_residual-in_err-body.ensures.1
    (later _ _ _ _ _ (rw c.under-inside.ensures at c.in_ok-value.ensures.gives)
    (here _ _ _ _ _ (rw (c.in_ok-lifted.ensures, c.first_place.ensures) at c.in_err-body.ensures.gives)))

pub let_statement-returns-clause-gives : goal.let_statement-returns-clause-gives
let_statement-returns-clause-gives g t c =
    tail _ _ _ _ judged_as c.let_end.result (rw c.under-inside.ensures at c.in_ok-value.ensures.gives)
    (tail _ _ _ _ judged_as c.let_end.result (rw (c.in_ok-lifted.ensures, c.first_place.ensures) at
    c.in_ok-body.ensures.gives)
    c.let_end.ensures.gives)

-- ---- bind_row
pub bind_row-returns-in-Synth-clause-gives : goal.bind_row-returns-in-Synth-clause-gives
bind_row-returns-in-Synth-clause-gives g t c =
    let G = entries c.args.self.now.globals.now in
    let N = c.args.self.now.budget in
    let p = part c.args.sigma in
    let S = locals c.args.scope.now in
    let e = c.needs_type.result in
    let s = c.args.span in
    let M = λ (m : Mode). bind_then G p S m c.args.span (option_map (λ x. x.now) c.args.name)
    (tree_of c.args.value.now) (statement_trees c.args.rest.now) in
    subst (λ m. Refuses (env G) N (M m) e) (sym (ap mode_of c.in-Synth.is))
    (refuse-told (env G) N Cause.needs_type (at s rule.DoBind 1) e c.needs_type.ensures)

pub bind_row-returns-in_err-wanted-in-Check-clause-gives : goal.bind_row-returns-in_err-wanted-in-Check-clause-gives
bind_row-returns-in_err-wanted-in-Check-clause-gives g t c =
    let G = entries c.args.self.now.globals.now in
    let N = c.args.self.now.budget in
    let p = part c.args.sigma in
    let S = locals c.args.scope.now in
    let M = λ (m : Mode). bind_then G p S m c.args.span (option_map (λ x. x.now) c.args.name)
    (tree_of c.args.value.now) (statement_trees c.args.rest.now) in
    let e = c.in_err-wanted-in-Check.field-0.0 in
    passed _ _ _ _ c.from_residual.result e c.from_residual.ensures.1
    (subst (λ m. Refuses (env G) N (M m) e) (sym (ap mode_of c.in-Check.is))
    (here _ _ _ _ _ c.in_err-wanted-in-Check.ensures))

pub bind_row-returns-in_err-action-in-Check-clause-gives : goal.bind_row-returns-in_err-action-in-Check-clause-gives
bind_row-returns-in_err-action-in-Check-clause-gives g t c =
    let G = entries c.args.self.now.globals.now in
    let N = c.args.self.now.budget in
    let p = part c.args.sigma in
    let S = locals c.args.scope.now in
    let M = λ (m : Mode). bind_then G p S m c.args.span (option_map (λ x. x.now) c.args.name)
    (tree_of c.args.value.now) (statement_trees c.args.rest.now) in
    let e = c.in_err-action-in-Check.field-0.0 in
    passed _ _ _ _ c.from_residual-in_err-action-in-Check.result e c.from_residual-in_err-action-in-Check.ensures.1
    (subst (λ m. Refuses (env G) N (M m) e) (sym (ap mode_of c.in-Check.is))
    (later _ _ _ _ _ c.in_ok-wanted-in-Check.ensures (here _ _ _ _ _ c.in_err-action-in-Check.ensures.gives)))

pub bind_row-returns-in_err-found-in-Check-clause-gives : goal.bind_row-returns-in_err-found-in-Check-clause-gives
bind_row-returns-in_err-found-in-Check-clause-gives g t c =
    let G = entries c.args.self.now.globals.now in
    let N = c.args.self.now.budget in
    let p = part c.args.sigma in
    let S = locals c.args.scope.now in
    let M = λ (m : Mode). bind_then G p S m c.args.span (option_map (λ x. x.now) c.args.name)
    (tree_of c.args.value.now) (statement_trees c.args.rest.now) in
    let e = c.in_err-found-in-Check.field-0.0 in
    passed _ _ _ _ c.from_residual-in_err-found-in-Check.result e c.from_residual-in_err-found-in-Check.ensures.1
    (subst (λ m. Refuses (env G) N (M m) e) (sym (ap mode_of c.in-Check.is))
    (later _ _ _ _ _ c.in_ok-wanted-in-Check.ensures (later _ _ _ _ _ c.in_ok-action-in-Check.ensures.gives
    (here _ _ _ _ _ (rw c.first_token-place.ensures at c.in_err-found-in-Check.ensures)))))

pub bind_row-returns-in_err-more-in-Check-clause-gives : goal.bind_row-returns-in_err-more-in-Check-clause-gives
bind_row-returns-in_err-more-in-Check-clause-gives g t c =
    let G = entries c.args.self.now.globals.now in
    let N = c.args.self.now.budget in
    let p = part c.args.sigma in
    let S = locals c.args.scope.now in
    let M = λ (m : Mode). bind_then G p S m c.args.span (option_map (λ x. x.now) c.args.name)
    (tree_of c.args.value.now) (statement_trees c.args.rest.now) in
    let e = c.in_err-more-in-Check.field-0.0 in
    passed _ _ _ _ c.from_residual-in_err-more-in-Check.result e c.from_residual-in_err-more-in-Check.ensures.1
    (subst (λ m. Refuses (env G) N (M m) e) (sym (ap mode_of c.in-Check.is))
    (later _ _ _ _ _ c.in_ok-wanted-in-Check.ensures (later _ _ _ _ _ c.in_ok-action-in-Check.ensures.gives
    (later _ _ _ _ _ (rw c.first_token-place.ensures at c.in_ok-found-in-Check.ensures)
    (here _ _ _ _ _ c.in_err-more-in-Check.ensures.gives)))))

pub bind_row-returns-in_ok-more-in-Check-clause-gives : goal.bind_row-returns-in_ok-more-in-Check-clause-gives
bind_row-returns-in_ok-more-in-Check-clause-gives g t c =
    let G = entries c.args.self.now.globals.now in
    let N = c.args.self.now.budget in
    let p = part c.args.sigma in
    let S = locals c.args.scope.now in
    let M = λ (m : Mode). bind_then G p S m c.args.span (option_map (λ x. x.now) c.args.name)
    (tree_of c.args.value.now) (statement_trees c.args.rest.now) in
    let r = c.bind_end.result in
    subst (λ m. Gives (env G) N (M m) judged_as r) (sym (ap mode_of c.in-Check.is))
    (tail _ _ _ _ judged_as r c.in_ok-wanted-in-Check.ensures
    (tail _ _ _ _ judged_as r c.in_ok-action-in-Check.ensures.gives
    (tail _ _ _ _ judged_as r (rw c.first_token-place.ensures at c.in_ok-found-in-Check.ensures)
    (tail _ _ _ _ judged_as r c.in_ok-more-in-Check.ensures.gives
    (rw c.first_token-place.ensures at c.bind_end.ensures.gives)))))

-- ---- bound
pub bound-returns-clause-gives : goal.bound-returns-clause-gives
bound-returns-clause-gives g t c =
    rw (c.with-inner.ensures, c.mult_after.ensures, c.in_ok-shift.ensures, raised-one, c.first_place.ensures) at
    c.statements.ensures.gives

-- ---- what is judged next weighs less
pub judge-apply_row-requires : goal.judge-apply_row-requires
judge-apply_row-requires g t c =
    let v = c.in-Apply.arguments.items in
    let f : c.deref-in-Apply.result.now ≡ c.in-Apply.function.value = search rules in
    let w : weight (tree_of c.args.e.now) ≡
    weight (tree_of c.in-Apply.function.value) + arguments_weight (argument_trees v) + 10 =
    ap weight (ap tree_of c.in-Apply.is ∙ apply_view c.in-Apply.function c.in-Apply.arguments c.in-Apply.span) in
    let a : weight (tree_of c.deref-in-Apply.result.now) ≡ weight (tree_of c.in-Apply.function.value) =
    ap (λ e. weight (tree_of e)) f in
    let b : arguments_weight (argument_trees c.deref-in-Apply-2.result.now) ≡ arguments_weight (argument_trees v) =
    ap (λ es. arguments_weight (argument_trees es)) c.deref-in-Apply-2.ensures.value in
    λ κs within. (omega (arith, w, a, b, c.decreases), within)

pub judge-lambda_row-requires : goal.judge-lambda_row-requires
judge-lambda_row-requires g t c =
    let v = c.in-Lambda.binders.items in
    let f : c.deref-in-Lambda-2.result.now ≡ c.in-Lambda.body.value = search rules in
    let w : weight (tree_of c.args.e.now) ≡
    binders_weight (binder_trees v) + weight (tree_of c.in-Lambda.body.value) + 6 =
    ap weight (ap tree_of c.in-Lambda.is ∙ lambda_view c.in-Lambda.binders c.in-Lambda.body c.in-Lambda.span) in
    let a : weight (tree_of c.deref-in-Lambda-2.result.now) ≡ weight (tree_of c.in-Lambda.body.value) =
    ap (λ e. weight (tree_of e)) f in
    let b : binders_weight (binder_trees c.deref-in-Lambda.result.now) ≡ binders_weight (binder_trees v) =
    ap (λ bs. binders_weight (binder_trees bs)) c.deref-in-Lambda.ensures.value in
    λ κs within. (omega (arith, w, a, b, c.decreases), within)

pub judge-statements-requires : goal.judge-statements-requires
judge-statements-requires g t c =
    let v = c.in-Do.statements.items in
    let w : weight (tree_of c.args.e.now) ≡ statements_weight (statement_trees v) + 6 =
    ap weight (ap tree_of c.in-Do.is ∙ do_view c.in-Do.statements c.in-Do.span) in
    let b : statements_weight (statement_trees c.deref-in-Do.result.now) ≡ statements_weight (statement_trees v) =
    ap (λ ss. statements_weight (statement_trees ss)) c.deref-in-Do.ensures.value in
    λ κs within. (omega (arith, w, b, c.decreases), within)
