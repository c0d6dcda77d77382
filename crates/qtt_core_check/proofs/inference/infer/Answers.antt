use Rattle.std.proofs.Common.{[], Ok, ◌∙◌, ap, subst}
use Rattle.qtt_term.specs.Judgement.{ext}
use Rattle.qtt_term.specs.View.{term}
use Rattle.qtt_term.specs.Globals.{env}
use Rattle.qtt_term.specs.Contexts.{part, variables}
use Rattle.qtt_term.specs.Infer.{infer}
use Rattle.qtt_term.proofs.Kept.{globals-closed, globals-counted}
use Rattle.qtt_term.specs.Telescopes.{tele}
use Rattle.qtt_core_check.specs.Meaning.{typed_as}
use Rattle.qtt_core_check.specs.Seen.{Reaches, Refuses, judged}
use Rattle.qtt_core_check.proofs.Within.{passed}
use Rattle.qtt_core_check.proofs.Contexts.{context-is, infers}
use Rattle.qtt_core_check.proofs.inference.infer.Goals as goal

pub returns-in_err-found : goal.returns-in_err-found
returns-in_err-found g c =
    let E = env c.args.globals.now in
    let N = c.args.budget in
    let p = part c.args.sigma in
    let t = term c.args.t.now in
    let same = ap (λ bs. ext [] (tele bs)) c.deref.ensures.value ∙ context-is c.args.context.now in
    let e = c.in_err-found.field-0.0 in
    let refused = subst (λ Γ. Refuses E N (infer E p Γ t) e) same c.in_err-found.ensures.gives in
    infers E N p (variables c.args.context.now) t (globals-closed c.args.globals.now)
    (globals-counted c.args.globals.now)
    c.from_residual.result (passed E N _ typed_as c.from_residual.result e c.from_residual.ensures.1 refused)

pub returns : goal.returns
returns g c =
    let E = env c.args.globals.now in
    let N = c.args.budget in
    let p = part c.args.sigma in
    let t = term c.args.t.now in
    let same = ap (λ bs. ext [] (tele bs)) c.deref.ensures.value ∙ context-is c.args.context.now in
    let j = c.in_ok-found.found in
    infers E N p (variables c.args.context.now) t (globals-closed c.args.globals.now)
    (globals-counted c.args.globals.now)
    (Ok (j.ty, j.uses)) (subst (λ Γ. Reaches E N (infer E p Γ t) (judged j)) same c.in_ok-found.ensures.gives)
