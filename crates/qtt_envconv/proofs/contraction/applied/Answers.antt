use Rattle.std.proofs.Common.{◌≡◌, ap, arith}
use Rattle.std.proofs.lemmas.Grind.{common_steps}
use Rattle.qtt_term.specs.declared.term.Term.{the_lemmas}
use Rattle.qtt_term.specs.Term.{Lam}
use Rattle.qtt_term.specs.Substitution.{sub}
use Rattle.qtt_term.specs.View.{term}
use Rattle.qtt_envconv.specs.Closures.{closure, values}
use Rattle.qtt_envconv.proofs.Contracting.{lam-applied}
use Rattle.qtt_envconv.proofs.contraction.applied.Goals as goal

pub returns-in_ok-values-in-Lam : goal.returns-in_ok-values-in-Lam
returns-in_ok-values-in-Lam c =
    let lam = c.in-Lam in
    let f = c.args.function in
    let body = term c.deref.result.now in
    let is : term f.code.now ≡ Lam lam.declared (term lam.field-1.value) body =
    grind (arith, common_steps, the_lemmas) in
    let same : c.args.mult ≡ lam.declared = grind (arith, common_steps) in
    lam-applied c.args.mult lam.declared (values f.values.now) (term f.code.now) (term lam.field-1.value) body
    (closure c.args.argument) (sub (values c.in_ok-values-in-Lam.values.now) body) is same
    (ap (λ v. sub v body) c.in_ok-values-in-Lam.ensures)
