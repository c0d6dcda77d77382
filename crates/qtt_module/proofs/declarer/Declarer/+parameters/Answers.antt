use Rattle.std.proofs.Common.{◌-◌, map, length, take, drop, subst, sym}
use Rattle.qtt_usage.specs.Mult.{𝟘}
use Rattle.qtt_syntax.specs.View.{param_of, tree_of}
use Rattle.qtt_term.specs.Entries.{entries, env}
use Rattle.qtt_term.specs.Scope.{scope_of, with_name}
use Rattle.qtt_term.specs.Telescopes.{tele}
use Rattle.qtt_term.specs.View.{term}
use Rattle.qtt_bidi.specs.Answers.{Reaches, Refuses, Gives}
use Rattle.qtt_bidi.proofs.Taking.{nothing-in, first-in}
use Rattle.qtt_bidi.proofs.Within.{on_done, here, passed, reached}
use Rattle.qtt_module.specs.Families.{parameters, type_of}
use Rattle.qtt_module.specs.FamilyView.{opened_behind}
use Rattle.qtt_module.proofs.Appended.{nothing-opened, all-kept, tele-long, binds-given, result-kept, still-erased}
use Rattle.qtt_module.proofs.declarer.Declarer.+parameters.Goals as goal

pub returns-in-empty-clause-gives : goal.returns-in-empty-clause-gives
returns-in-empty-clause-gives g t c =
    let G = entries c.args.self.now.elaborator.globals.now in
    let n = c.args.self.now.elaborator.budget in
    let x = c.args.name.now in
    let Γ = c.args.context in
    let S = scope_of Γ in
    subst (λ ps. Reaches (env G) n (parameters G x S (map param_of ps)) (opened_behind (length Γ.vars.items) Γ))
    (sym (nothing-in c.args.params.now c.in-empty.len_below)) (reached on_done (nothing-opened Γ))

pub returns-in-empty-clause-kept : goal.returns-in-empty-clause-kept
returns-in-empty-clause-kept g t c =
    let vs = c.args.context.vars.items in
    all-kept (length vs) (tele vs) (tele-long vs)

pub returns-in_err-ty-in-len1-up-clause-gives : goal.returns-in_err-ty-in-len1-up-clause-gives
returns-in_err-ty-in-len1-up-clause-gives g t c =
    let G = entries c.args.self.now.elaborator.globals.now in
    let n = c.args.self.now.elaborator.budget in
    let x = c.args.name.now in
    let Γ = c.args.context in
    let S = scope_of Γ in
    let e = c.in_err-ty-in-len1-up.field-0.0 in
    passed _ _ _ _ c.from_residual.result e c.from_residual.ensures.1
    (subst (λ ps. Refuses (env G) n (parameters G x S (map param_of ps)) e)
    (sym (first-in c.args.params.now c.first-item.result c.in-len1-up.len_at_least c.first-item.is))
    (here _ _ _ _ _ c.in_err-ty-in-len1-up.ensures))

pub returns-in_ok-inner-in-len1-up-clause-gives : goal.returns-in_ok-inner-in-len1-up-clause-gives
returns-in_ok-inner-in-len1-up-clause-gives g t c =
    let G = entries c.args.self.now.elaborator.globals.now in
    let n = c.args.self.now.elaborator.budget in
    let x = c.args.name.now in
    let Γ = c.args.context in
    let S = scope_of Γ in
    let Δ = c.in_ok-inner-in-len1-up.inner in
    let p = c.first-item.result in
    let ps = c.args.params.now in
    let rest = take (length ps - 1) (drop 1 ps) in
    let T = term c.in_ok-ty-in-len1-up.ty in
    let r = c.parameters.result in
    let inner : Gives (env G) n (parameters G x (with_name 𝟘 T S) (map param_of rest))
    (opened_behind (length Δ.vars.items)) r =
    subst (λ U. Gives (env G) n (parameters G x U (map param_of rest)) (opened_behind (length Δ.vars.items)) r)
    c.in_ok-inner-in-len1-up.ensures.scope c.parameters.ensures.gives in
    subst (λ ps. Gives (env G) n (parameters G x S (map param_of ps)) (opened_behind (length Γ.vars.items)) r)
    (sym (first-in ps p c.in-len1-up.len_at_least c.first-item.is))
    (binds-given Γ Δ 𝟘 T c.in_ok-inner-in-len1-up.ensures.vars (env G) n (type_of G S x 1 (tree_of p.ty))
    (λ T. parameters G x (with_name 𝟘 T S) (map param_of rest)) r c.in_ok-ty-in-len1-up.ensures inner
    c.parameters.ensures.kept)

pub returns-in_ok-inner-in-len1-up-clause-kept : goal.returns-in_ok-inner-in-len1-up-clause-kept
returns-in_ok-inner-in-len1-up-clause-kept g t c =
    result-kept c.args.context c.in_ok-inner-in-len1-up.inner 𝟘 (term c.in_ok-ty-in-len1-up.ty)
    c.in_ok-inner-in-len1-up.ensures.vars c.parameters.result c.parameters.ensures.kept

pub returns-in_ok-inner-in-len1-up-clause-erased : goal.returns-in_ok-inner-in-len1-up-clause-erased
returns-in_ok-inner-in-len1-up-clause-erased g t c =
    λ h.
    c.parameters.ensures.erased
    (still-erased (tele c.args.context.vars.items) (tele c.in_ok-inner-in-len1-up.inner.vars.items)
    (term c.in_ok-ty-in-len1-up.ty) c.in_ok-inner-in-len1-up.ensures.vars h)
