use Rattle.std.proofs.Common.{◌≡◌, length, sym, subst, rules, ◌∙◌}
use Rattle.qtt_syntax.specs.View.{tree_of}
use Rattle.qtt_term.specs.Entries.{entries, env}
use Rattle.qtt_term.specs.Scope.{depth, scope_of}
use Rattle.qtt_term.specs.View.{term}
use Rattle.qtt_term.specs.declared.rule.Rule.TheVariants as rule
use Rattle.qtt_rules.specs.Refusal.{Cause, at}
use Rattle.qtt_bidi.specs.Answers.{Fails}
use Rattle.qtt_bidi.proofs.Scopes.{outer-depth}
use Rattle.qtt_bidi.proofs.Within.{on, here, passed, fails_later}
use Rattle.qtt_module.specs.Families.{level}
use Rattle.qtt_module.proofs.Alike.{there, absent}
use Rattle.qtt_module.proofs.declarer.Declarer.level.Goals as goal

pub returns-in_err-found : goal.returns-in_err-found
returns-in_err-found g c =
    passed _ _ _ _ c.from_residual.result c.in_err-found.field-0.0 c.from_residual.ensures.1
    (here _ _ _ _ _ c.in_err-found.ensures.gives)

pub returns-in-Some : goal.returns-in-Some
returns-in-Some g c = on _ c.in_ok-found.ensures.gives (there _ _ _ _ (sym c.in-Some.ensures))

pub returns-in_ok-number-in-None : goal.returns-in_ok-number-in-None
returns-in_ok-number-in-None g c =
    let G = entries c.args.self.now.elaborator.globals.now in
    let n = c.args.self.now.elaborator.budget in
    let Γ = c.args.context.now in
    let S = scope_of Γ in
    let v : c.len.result ≡ length Γ.vars.items = search rules in
    let M = level G S (tree_of c.args.end.now) in
    let t = term c.in_ok-found.found.core in
    subst (λ d. Fails (env G) n M (Cause.not_a_type d t) (at c.first_token.result rule.Families 2))
    (sym (c.in_ok-number-in-None.ensures ∙ v ∙ sym (outer-depth Γ)))
    (subst (λ s. Fails (env G) n M (Cause.not_a_type (depth S) t) (at s rule.Families 2)) (sym c.first_token.ensures)
    (fails_later _ c.in_ok-found.ensures.gives (absent _ _ _ (sym c.in-None.ensures))))
