use Rattle.std.proofs.Common.{◌≡◌, length, sym, ap, refl, rules, ◌∙◌}
use Rattle.qtt_term.specs.Forms.{as_sort}
use Rattle.qtt_term.specs.Answers.{head}
use Rattle.qtt_term.specs.Scope.{depth, scope_of}
use Rattle.qtt_term.specs.View.{term}
use Rattle.qtt_term.specs.declared.rule.Rule.TheVariants as rule
use Rattle.qtt_rules.specs.Refusal.{Cause, at}
use Rattle.qtt_bidi.proofs.Looked.{head-is, other-told, spent-told}
use Rattle.qtt_bidi.proofs.Scopes.{outer-depth}
use Rattle.qtt_module.proofs.declarer.Declarer.core_sort.Goals as goal

pub returns-in-Some : goal.returns-in-Some
returns-in-Some g c =
    head-is _ _ as_sort (λ d t. Cause.core_refused c.args.name.now) (depth (scope_of c.args.context.now))
    (term c.args.ty.now) (at c.args.span rule.Conversion 2) (term c.in-Done.head) c.in-Done.field-1 _
    (sym c.in_ok-head.ensures ∙ ap head c.in-Done.is) (sym c.in-Some.ensures)

pub returns-in-Done : goal.returns-in-Done
returns-in-Done g c =
    other-told _ _ as_sort (λ d t. Cause.core_refused c.args.name.now) (depth (scope_of c.args.context.now))
    (term c.args.ty.now) (at c.args.span rule.Conversion 2) (term c.in-Done.head) c.in-Done.field-1
    c.core_refused.result (depth (scope_of c.args.context.now))
    (sym c.in_ok-head.ensures ∙ ap head c.in-Done.is) (sym c.in-None.ensures) refl c.core_refused.ensures

pub returns : goal.returns
returns g c =
    let Γ = c.args.context.now in
    let v : c.len.result ≡ length Γ.vars.items = search rules in
    spent-told _ _ as_sort (λ d t. Cause.core_refused c.args.name.now) (depth (scope_of Γ))
    (term c.args.ty.now) (at c.args.span rule.Conversion 2) c.spent.result c.in_ok-depth.depth
    c.in_ok-copy-in-Spent.field-0 c.args.span rule.Conversion 2
    (sym c.in_ok-head.ensures ∙ ap head c.in-Spent.is) (c.in_ok-depth.ensures ∙ v ∙ sym (outer-depth Γ))
    c.in_ok-copy-in-Spent.ensures refl c.spent.ensures
