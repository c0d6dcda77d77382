use Rattle.std.proofs.Common.{◌≡◌, [], subst, rules}
use Rattle.qtt_term.specs.Contexts.{variables}
use Rattle.qtt_term.specs.Entries.{env}
use Rattle.qtt_term.specs.Infer.{infer}
use Rattle.qtt_term.specs.View.{term}
use Rattle.qtt_core_check.specs.Meaning.{typed_as}
use Rattle.qtt_core_check.specs.Seen as core
use Rattle.qtt_module.specs.GroupCalls.{globals_of, defined_of}
use Rattle.qtt_module.proofs.Judging.{holds-typed, holds-told}
use Rattle.qtt_module.proofs.Onward.{gives-so}
use Rattle.qtt_module.proofs.groups.Group.body_holds.Goals as goal

pub returns-in-Ok : goal.returns-in-Ok
returns-in-Ok g c =
    let E = env (globals_of c.args.self.now) in
    let n = c.args.self.now.elaborator.budget in
    let D = defined_of c.args.self.now in
    let t = term c.args.body.now in
    let j = typed_as (c.in-Ok.found, c.in-Ok.field-0-1) in
    let none : variables (record { vars = c.new.result; names = c.new-2.result }) ≡ [] = search rules in
    gives-so E n _ _ (λ u. u) c.has_type.result
    (holds-typed D n t j (subst (λ Γ. core.Reaches E n (infer E D.group.part Γ t) j) none c.in-Ok.ensures.gives))
    c.has_type.ensures

pub returns : goal.returns
returns g c =
    let E = env (globals_of c.args.self.now) in
    let n = c.args.self.now.elaborator.budget in
    let D = defined_of c.args.self.now in
    let t = term c.args.body.now in
    let r = c.in-Err.refusal in
    let none : variables (record { vars = c.new.result; names = c.new-2.result }) ≡ [] = search rules in
    holds-told D n t r c.in_ok-body_refused-in-Err.field-0
    (subst (λ Γ. core.Refuses E n (infer E D.group.part Γ t) r) none c.in-Err.ensures.gives)
    c.in_ok-body_refused-in-Err.ensures
