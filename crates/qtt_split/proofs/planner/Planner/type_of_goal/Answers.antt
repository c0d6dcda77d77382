use Rattle.std.proofs.Common.{◌≡◌, ◌∙◌, Ok, Err, Some, None, reverse, ap, refl, subst, sym}
use Rattle.qtt_term.specs.Ask.{Ending}
use Rattle.qtt_term.specs.Entries.{entries, env}
use Rattle.qtt_term.specs.Infer.{infer}
use Rattle.qtt_term.specs.Judgement.{Part}
use Rattle.qtt_term.specs.Telescopes.{tele}
use Rattle.qtt_term.specs.View.{term}
use Rattle.qtt_core_check.specs.declared.refusal.CoreRefusal.TheVariants as refusal
use Rattle.qtt_core_check.specs.Meaning.{typed_as}
use Rattle.qtt_core_check.specs.Seen as core
use Rattle.qtt_term.specs.declared.rule.Rule.TheVariants as rule
use Rattle.qtt_rules.specs.declared.detail.Detail.TheVariants as detail
use Rattle.qtt_rules.specs.declared.errors.ElabError.TheVariants as error
use Rattle.qtt_unify.specs.View.{binders}
use Rattle.qtt_split.specs.Answers.{Reaches, Refuses}
use Rattle.qtt_split.specs.Levels.{type_of_goal}
use Rattle.qtt_split.specs.Tests.{Test, at, number_of}
use Rattle.qtt_split.proofs.Asked.{type-found, no-type, type-spent, questions-alike}
use Rattle.qtt_split.proofs.planner.Planner.type_of_goal.Goals as goal

pub returns-in-Ok : goal.returns-in-Ok
returns-in-Ok g c =
    let E = env (entries c.args.self.now.unifier.globals.now) in
    let n = c.args.self.now.unifier.budget in
    let p = at c.args.span Test.level in
    let A = term c.args.goal.now in
    let Δ = reverse (tele c.in_ok-copied_binders.field-0.items) in
    let T = term c.in-Ok.ty in
    let same : Δ ≡ binders c.args.context.now = ap reverse c.in_ok-copied_binders.ensures in
    let gives : core.Gives E n (infer E Part.erased Δ A) typed_as (Ok (c.in-Ok.ty, c.in-Ok.field-0-1)) =
    subst (λ r. core.Gives E n (infer E Part.erased Δ A) typed_as r) c.in-Ok.is c.infer.ensures.gives in
    subst (λ Γ. Reaches E n (type_of_goal E Γ p A) (Some T)) same
    (type-found E n Δ p A T c.in-Ok.field-0-1 gives.is)

pub returns-in-Err-Fails : goal.returns-in-Err-Fails
returns-in-Err-Fails g c =
    let E = env (entries c.args.self.now.unifier.globals.now) in
    let n = c.args.self.now.unifier.budget in
    let p = at c.args.span Test.level in
    let A = term c.args.goal.now in
    let Δ = reverse (tele c.in_ok-copied_binders.field-0.items) in
    let r = c.in-Err-Fails.field-0-0 in
    let k = c.in-Err-Fails.field-0-1 in
    let same : Δ ≡ binders c.args.context.now = ap reverse c.in_ok-copied_binders.ensures in
    let whole = c.in-Err-Fails.is ∙ ap Err c.in-Err-Fails.field-0-is in
    let gives : core.Gives E n (infer E Part.erased Δ A) typed_as (Err (refusal.Fails r k)) =
    subst (λ x. core.Gives E n (infer E Part.erased Δ A) typed_as x) whole c.infer.ensures.gives in
    subst (λ Γ. Reaches E n (type_of_goal E Γ p A) None) same (no-type E n Δ p A _ gives.is)

pub returns-in-Err-Spent : goal.returns-in-Err-Spent
returns-in-Err-Spent g c =
    let E = env (entries c.args.self.now.unifier.globals.now) in
    let n = c.args.self.now.unifier.budget in
    let p = at c.args.span Test.level in
    let A = term c.args.goal.now in
    let Δ = reverse (tele c.in_ok-copied_binders.field-0.items) in
    let q = c.in-Err-Spent.question in
    let same : Δ ≡ binders c.args.context.now = ap reverse c.in_ok-copied_binders.ensures in
    let whole = c.in-Err-Spent.is ∙ ap Err c.in-Err-Spent.field-0-is in
    let gives : core.Gives E n (infer E Part.erased Δ A) typed_as (Err (refusal.Spent q)) =
    subst (λ x. core.Gives E n (infer E Part.erased Δ A) typed_as x) whole c.infer.ensures.gives in
    subst (λ e. Refuses E n (type_of_goal E (binders c.args.context.now) p A) e) (sym c.refused.ensures)
    (subst (λ Γ. Refuses E n (type_of_goal E Γ p A)
    (error.Refused (detail.BudgetSpent n q) c.args.span rule.Clauses (number_of Test.level))) same
    (record {
      budget = refl;
      is = type-spent E n Δ p A (core.question q) gives.is ∙ ap (λ x. Ending.spent p x) (questions-alike q);
    }))
