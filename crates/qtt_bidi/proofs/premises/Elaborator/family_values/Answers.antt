use Rattle.std.proofs.Common.{sym, ap, refl, ◌∙◌}
use Rattle.qtt_bidi.specs.Premises.{as_family}
use Rattle.qtt_term.specs.Answers.{head}
use Rattle.qtt_term.specs.Scope.{depth}
use Rattle.qtt_term.specs.View.{term}
use Rattle.qtt_rules.specs.Refusal.{Cause, at}
use Rattle.qtt_bidi.specs.Seen.{locals}
use Rattle.qtt_bidi.proofs.Looked.{head-is, other-told, spent-told}
use Rattle.qtt_bidi.proofs.premises.Elaborator.family_values.Goals as goal

pub returns-in-Some : goal.returns-in-Some
returns-in-Some g c =
    head-is _ _ (as_family c.args.id) Cause.not_a_family (depth (locals c.args.scope.now)) (term c.args.ty.now)
    (at c.args.span c.args.rule c.args.number) (term c.in-Done.head) c.in-Done.field-1 _
    (sym c.in_ok-head.ensures ∙ ap head c.in-Done.is) (sym c.in-Some.ensures)

pub returns-in-None : goal.returns-in-None
returns-in-None g c =
    other-told _ _ (as_family c.args.id) Cause.not_a_family (depth (locals c.args.scope.now)) (term c.args.ty.now)
    (at c.args.span c.args.rule c.args.number) (term c.in-Done.head) c.in-Done.field-1 c.other_form.result
    c.in_ok-depth.depth (sym c.in_ok-head.ensures ∙ ap head c.in-Done.is) (sym c.in-None.ensures)
    c.in_ok-depth.ensures c.other_form.ensures

pub returns-in_ok-copy-in-Spent : goal.returns-in_ok-copy-in-Spent
returns-in_ok-copy-in-Spent g c =
    spent-told _ _ (as_family c.args.id) Cause.not_a_family (depth (locals c.args.scope.now)) (term c.args.ty.now)
    (at c.args.span c.args.rule c.args.number) c.spent.result c.in_ok-depth.depth
    c.in_ok-copy-in-Spent.field-0 c.args.span c.args.rule c.args.number
    (sym c.in_ok-head.ensures ∙ ap head c.in-Spent.is) c.in_ok-depth.ensures c.in_ok-copy-in-Spent.ensures refl
    c.spent.ensures
