use Rattle.std.proofs.Common.{◌≡◌, length, sym, subst, ap, rules, ◌∙◌}
use Rattle.qtt_syntax.specs.View.{tree_of}
use Rattle.qtt_term.specs.Entries.{entries, env}
use Rattle.qtt_term.specs.Scope.{depth, scope_of}
use Rattle.qtt_term.specs.View.{term, side_by_side}
use Rattle.qtt_term.specs.declared.rule.Rule.TheVariants as rule
use Rattle.qtt_rules.specs.Refusal.{Cause, at}
use Rattle.qtt_bidi.specs.Answers.{Fails}
use Rattle.qtt_bidi.proofs.Scopes.{outer-depth}
use Rattle.qtt_bidi.proofs.Within.{on, here, passed, reached, fails_later}
use Rattle.qtt_module.specs.Families.{as_results}
use Rattle.qtt_module.specs.FamilyParts.{results}
use Rattle.qtt_module.proofs.Alike.{there, absent}
use Rattle.qtt_module.proofs.declarer.Declarer.results.Goals as goal

pub returns-in_err-found : goal.returns-in_err-found
returns-in_err-found g c =
    passed _ _ _ _ c.from_residual.result c.in_err-found.field-0.0 c.from_residual.ensures.1
    (here _ _ _ _ _ c.in_err-found.ensures.gives)

pub returns-in-Some : goal.returns-in-Some
returns-in-Some g c =
    let F = c.args.head.now in
    let k : c.len-params.result ≡ length F.params.vars.items = search rules in
    let t = term c.in_ok-found.found.core in
    reached (on _ c.in_ok-found.ensures.gives
    (there _ _ _ _
    (ap (λ k. as_results F.id k c.args.fields t) (sym k) ∙ sym c.in-Some.ensures)))
    (ap side_by_side (sym c.in_ok-copy_all.ensures))

pub returns : goal.returns
returns g c =
    let G = entries c.args.self.now.elaborator.globals.now in
    let n = c.args.self.now.elaborator.budget in
    let F = c.args.head.now in
    let k : c.len-params.result ≡ length F.params.vars.items = search rules in
    let t = term c.in_ok-found.found.core in
    let Γ = c.args.context.now in
    let S = scope_of Γ in
    let v : c.len.result ≡ length Γ.vars.items = search rules in
    let M = results G F.id (length F.params.vars.items) c.args.fields S (tree_of c.args.end.now) in
    subst (λ d. Fails (env G) n M (Cause.not_a_family d t) (at c.first_token.result rule.Families 6))
    (sym (c.in_ok-number.ensures ∙ v ∙ sym (outer-depth Γ)))
    (subst (λ s. Fails (env G) n M (Cause.not_a_family (depth S) t) (at s rule.Families 6)) (sym c.first_token.ensures)
    (fails_later _ c.in_ok-found.ensures.gives
    (absent _ _ _ (ap (λ k. as_results F.id k c.args.fields t) (sym k) ∙ sym c.in_default.ensures))))
