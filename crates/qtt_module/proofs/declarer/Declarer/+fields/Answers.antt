use Rattle.std.proofs.Common.{◌≡◌, [], length, ap, rules, subst, sym}
use Rattle.qtt_syntax.specs.declared.expr.Expr.{the_lemmas}
use Rattle.qtt_syntax.specs.View.{tree_of}
use Rattle.qtt_term.specs.Entries.{entries, env}
use Rattle.qtt_term.specs.Scope.{scope_of, with_name}
use Rattle.qtt_term.specs.Telescopes.{tele}
use Rattle.qtt_term.specs.View.{term}
use Rattle.qtt_bidi.specs.Answers.{Reaches, Refuses, Gives}
use Rattle.qtt_bidi.proofs.Within.{on_done, here, passed, reached}
use Rattle.qtt_module.specs.Families.{fields, field_type, pieces}
use Rattle.qtt_module.specs.FamilyView.{opened_behind}
use Rattle.qtt_module.proofs.Appended.{nothing-opened, all-kept, tele-long, binds-given, result-kept, result-more}
use Rattle.qtt_module.proofs.declarer.Declarer.+fields.Goals as goal

pub returns-in_default-clause-kept : goal.returns-in_default-clause-kept
returns-in_default-clause-kept g t c =
    let vs = c.args.context.vars.items in
    all-kept (length vs) (tele vs) (tele-long vs)

pub returns-in_err-ty-in-Pi-clause-gives : goal.returns-in_err-ty-in-Pi-clause-gives
returns-in_err-ty-in-Pi-clause-gives g t c =
    let G = entries c.args.self.now.elaborator.globals.now in
    let n = c.args.self.now.elaborator.budget in
    let x = c.args.name.now in
    let l = c.args.level in
    let S = scope_of c.args.context in
    let e = c.in_err-ty-in-Pi.field-0.0 in
    let d : c.deref.result.now ≡ c.in-Pi.domain.value = search rules in
    passed _ _ _ _ c.from_residual.result e c.from_residual.ensures.1
    (subst (λ t. Refuses (env G) n (fields G x l S (pieces t)) e) (sym (ap tree_of c.in-Pi.is))
    (here _ _ _ _ _ (rw d at c.in_err-ty-in-Pi.ensures)))

pub returns-in_ok-inner-in-Pi-clause-gives : goal.returns-in_ok-inner-in-Pi-clause-gives
returns-in_ok-inner-in-Pi-clause-gives g t c =
    let G = entries c.args.self.now.elaborator.globals.now in
    let n = c.args.self.now.elaborator.budget in
    let x = c.args.name.now in
    let l = c.args.level in
    let Γ = c.args.context in
    let S = scope_of Γ in
    let Δ = c.in_ok-inner-in-Pi.inner in
    let q = c.in-Pi.mult in
    let T = term c.in_ok-ty-in-Pi.ty in
    let r = c.fields.result in
    let d : c.deref.result.now ≡ c.in-Pi.domain.value = search rules in
    let b : c.deref-in-Pi.result.now ≡ c.in-Pi.codomain.value = search rules in
    let rest = pieces (tree_of c.in-Pi.codomain.value) in
    let inner : Gives (env G) n (fields G x l (with_name q T S) rest) (opened_behind (length Δ.vars.items)) r =
    subst (λ U. Gives (env G) n (fields G x l U rest) (opened_behind (length Δ.vars.items)) r)
    c.in_ok-inner-in-Pi.ensures.scope
    (subst (λ t. Gives (env G) n (fields G x l (scope_of Δ) (pieces (tree_of t)))
    (opened_behind (length Δ.vars.items)) r) b c.fields.ensures.gives) in
    subst (λ t. Gives (env G) n (fields G x l S (pieces t)) (opened_behind (length Γ.vars.items)) r)
    (sym (ap tree_of c.in-Pi.is))
    (binds-given Γ Δ q T c.in_ok-inner-in-Pi.ensures.vars (env G) n
    (field_type G S x l c.in-Pi.span (tree_of c.in-Pi.domain.value))
    (λ T. fields G x l (with_name q T S) rest) r (rw d at c.in_ok-ty-in-Pi.ensures) inner c.fields.ensures.kept)

pub returns-in_ok-inner-in-Pi-clause-kept : goal.returns-in_ok-inner-in-Pi-clause-kept
returns-in_ok-inner-in-Pi-clause-kept g t c =
    result-kept c.args.context c.in_ok-inner-in-Pi.inner c.in-Pi.mult (term c.in_ok-ty-in-Pi.ty)
    c.in_ok-inner-in-Pi.ensures.vars c.fields.result c.fields.ensures.kept

pub returns-in_ok-inner-in-Pi-clause-more : goal.returns-in_ok-inner-in-Pi-clause-more
returns-in_ok-inner-in-Pi-clause-more g t c =
    result-more c.args.context c.in_ok-inner-in-Pi.inner c.in-Pi.mult (term c.in_ok-ty-in-Pi.ty)
    c.in_ok-inner-in-Pi.ensures.vars c.fields.result c.fields.ensures.more

pub returns-in_default-clause-gives : goal.returns-in_default-clause-gives
returns-in_default-clause-gives g t c =
    let G = entries c.args.self.now.elaborator.globals.now in
    let n = c.args.self.now.elaborator.budget in
    let x = c.args.name.now in
    let l = c.args.level in
    let Γ = c.args.context in
    let S = scope_of Γ in
    let none : pieces (tree_of c.args.chain.now) ≡ [] = search (rules, the_lemmas) in
    subst (λ ps. Reaches (env G) n (fields G x l S ps) (opened_behind (length Γ.vars.items) Γ)) (sym none)
    (reached on_done (nothing-opened Γ))
