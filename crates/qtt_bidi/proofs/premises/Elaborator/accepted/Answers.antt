use Rattle.std.proofs.Common.{refl, subst}
use Rattle.qtt_term.specs.Entries.{entries, env}
use Rattle.qtt_term.specs.Infer.{infer}
use Rattle.qtt_term.specs.Judgement.{Part}
use Rattle.qtt_term.specs.View.{term}
use Rattle.qtt_core_check.specs.Meaning.{typed_as}
use Rattle.qtt_core_check.specs.Seen as core
use Rattle.qtt_bidi.specs.Answers.{Refuses}
use Rattle.qtt_bidi.specs.Ends.{accepted_as}
use Rattle.qtt_bidi.specs.Seen.{locals}
use Rattle.qtt_bidi.proofs.Accepted.{accepted-ok, accepted-told}
use Rattle.std.proofs.Common.{sym}
use Rattle.qtt_bidi.proofs.premises.Elaborator.accepted.Goals as goal

pub returns-in-Ok-clause-gives : goal.returns-in-Ok-clause-gives
returns-in-Ok-clause-gives g c =
    let G = entries c.args.self.now.globals.now in
    let n = c.args.self.now.budget in
    let S = locals c.args.scope.now in
    let t = term c.args.stands in
    let r = typed_as (c.in-Ok.field-0-0, c.in-Ok.uses) in
    accepted-ok G n S c.args.span t (term c.args.ty) r
    (subst (λ Γ. core.Reaches (env G) n (infer (env G) Part.run Γ t) r) c.in_ok-variables.ensures c.in-Ok.ensures.gives)

pub returns-in-Err-clause-gives : goal.returns-in-Err-clause-gives
returns-in-Err-clause-gives g c =
    let G = entries c.args.self.now.globals.now in
    let n = c.args.self.now.budget in
    let S = locals c.args.scope.now in
    let t = term c.args.stands in
    let e = c.in-Err.refusal in
    subst (λ x. Refuses (env G) n (accepted_as G S c.args.span t (term c.args.ty)) x) (sym c.not_accepted.ensures)
    (accepted-told G n S c.args.span t (term c.args.ty) c.in_ok-depth.depth c.args.stands c.in_ok-depth.ensures refl e
    (subst (λ Γ. core.Refuses (env G) n (infer (env G) Part.run Γ t) e) c.in_ok-variables.ensures
    c.in-Err.ensures.gives))
