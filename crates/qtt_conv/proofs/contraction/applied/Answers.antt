use Rattle.std.proofs.Common.{◌≡◌, ap, ◌∙◌, arith}
use Rattle.std.proofs.lemmas.Grind.{common_steps}
use Rattle.qtt_term.specs.declared.term.Term.{the_lemmas}
use Rattle.qtt_term.specs.Term.{Lam}
use Rattle.qtt_term.specs.Substitution.{sub, inst}
use Rattle.qtt_term.specs.Shift.{values_in}
use Rattle.qtt_term.specs.View.{term, terms}
use Rattle.qtt_conv.proofs.Contracting.{beta-fits}
use Rattle.qtt_conv.proofs.contraction.applied.Goals as goal

pub returns-in_ok-subst-in-Lam : goal.returns-in_ok-subst-in-Lam
returns-in_ok-subst-in-Lam c =
    let lam = c.in-Lam in
    let is : term c.args.function.now ≡ Lam lam.declared (term lam.field-1.value) (term lam.body.value) =
    grind (arith, common_steps, the_lemmas) in
    let same : c.args.mult ≡ lam.declared = grind (arith, common_steps) in
    beta-fits c.args.mult lam.declared (term c.args.function.now) (term lam.field-1.value) (term lam.body.value)
    (term c.args.argument.now) (term c.in_ok-subst-in-Lam.field-0) is same
    (c.in_ok-subst-in-Lam.ensures ∙ ap (λ vs. sub (values_in (terms vs)) (term c.deref.result.now))
    c.from_ref.ensures.value ∙ ap (λ b. inst (term b) (term c.args.argument.now)) c.deref.ensures)
