use Rattle.std.proofs.Common.{◌≡◌, map, option_map, ap, ap₂, sym, ◌∙◌, arith}
use Rattle.std.proofs.lemmas.Grind.{common_steps}
use Rattle.std.proofs.lemmas.Result.{IfOk-weaker}
use Rattle.qtt_term.specs.declared.term.Term.{the_lemmas}
use Rattle.qtt_term.specs.declared.term.Case.{out-Case}
use Rattle.qtt_term.specs.Term.{ε, ◌▸◌, App, Delete}
use Rattle.qtt_term.specs.Contraction.{chain, as_con, beta, iota, when_refl}
use Rattle.qtt_term.specs.Substitution.{sub}
use Rattle.qtt_term.specs.View.{term, terms, branches}
use Rattle.qtt_term.proofs.Components.{case_of}
use Rattle.qtt_envconv.specs.Closures.{closure, values}
use Rattle.qtt_envconv.specs.Shapes.{literal}
use Rattle.qtt_envconv.specs.Frames.{focus, case_rest}
use Rattle.qtt_envconv.proofs.Contracting.{argument-contracts, case-contracts, delete-contracts, frame-waits, others-wait, others-are_no_value, IsElimination}
use Rattle.qtt_envconv.proofs.contraction.frame_contracted.Goals as goal

pub returns-in_default : goal.returns-in_default
returns-in_default c =
    let f = c.args.frame.now in
    let other = others-are_no_value c.args.focus.now c.requires.focus c.in_default.not-Closure in
    λ E. frame-waits E (closure f.closure) (focus c.args.focus.now) (map literal f.literals.items) f.place
    c.requires.frame.1 c.requires.fits other.0 other.1

pub returns-in-App : goal.returns-in-App
returns-in-App c =
    let f = c.args.frame.now in
    let σ = values f.closure.values.now in
    let p = c.in-App in
    let a = term c.deref.result.now in
    let is : term f.closure.code.now ≡ App p.mult (term p.field-1.value) a = grind (arith, common_steps, the_lemmas) in
    IfOk-weaker c.applied.result _ _
    (λ o e E. argument-contracts E σ (term f.closure.code.now) (focus c.args.focus.now) p.mult (term p.field-1.value) a
    (map literal f.literals.items) f.place (option_map closure o) is c.requires.frame.1
    (e ∙ ap₂ (λ t b. beta p.mult (t ▸ b ▸ ε)) (sym (ap focus c.in-Closure.is)) c.at.ensures)) c.applied.ensures

pub returns-in-Case : goal.returns-in-Case
returns-in-Case c =
    let f = c.args.frame.now in
    let σ = values f.closure.values.now in
    let case = c.deref-in-Case.result.now in
    let a = out-Case case in
    let is : term f.closure.code.now ≡ case_of a.mult a.family (terms a.params.items) a.indices (term a.motive)
    (branches a.branches.items) (term a.scrutinee) =
    grind (arith, common_steps, the_lemmas) in
    IfOk-weaker c.chosen.result _ _
    (λ o e E. case-contracts E σ (term f.closure.code.now) (focus c.args.focus.now) a.mult a.family
    (terms a.params.items) a.indices (term a.motive) (branches a.branches.items) (term a.scrutinee)
    (map literal f.literals.items) f.place (option_map closure o) is c.requires.frame.1
    (e ∙ ap (λ t. iota a.family (map (λ b. b.0) (branches a.branches.items)) (case_rest σ case t))
    (sym (ap focus c.in-Closure.is)))) c.chosen.ensures

pub returns-in-Delete : goal.returns-in-Delete
returns-in-Delete c =
    let f = c.args.frame.now in
    let σ = values f.closure.values.now in
    let d = c.deref-in-Delete.result.now in
    let is : term f.closure.code.now ≡ Delete d.mult (term d.ty) (term d.point) (term d.motive) (term d.branch)
    (term d.scrutinee) =
    grind (arith, common_steps, the_lemmas) in
    λ E. delete-contracts E σ (term f.closure.code.now) (focus c.args.focus.now) d.mult (term d.ty) (term d.point)
    (term d.motive) (term d.branch) (term d.scrutinee) (map literal f.literals.items) f.place
    (option_map closure c.deleted.result) is c.requires.frame.1
    (c.deleted.ensures ∙ ap (λ t. chain (as_con t) (when_refl (sub σ (term d.branch))))
    (sym (ap focus c.in-Closure.is)))

pub returns-in_default-code : goal.returns-in_default-code
returns-in_default-code c =
    let f = c.args.frame.now in
    let none : IsElimination (term f.closure.code.now) → ⊥ = grind (arith, common_steps, the_lemmas) in
    λ E. others-wait E (values f.closure.values.now) (term f.closure.code.now) (focus c.args.focus.now)
    (map literal f.literals.items) f.place c.requires.frame.0 c.requires.frame.1 none c.requires.fits
