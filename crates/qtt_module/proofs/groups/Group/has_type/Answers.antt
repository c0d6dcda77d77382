use Rattle.std.proofs.Common.{subst, true, false}
use Rattle.qtt_term.specs.Entries.{env}
use Rattle.qtt_term.specs.View.{term}
use Rattle.qtt_rules.specs.Asks.{alike}
use Rattle.qtt_bidi.specs.Answers.{Reaches, Refuses}
use Rattle.qtt_bidi.proofs.Looked.{told}
use Rattle.qtt_bidi.proofs.Within.{here, passed, reached}
use Rattle.qtt_split.specs.Tests.{Test, at}
use Rattle.qtt_module.specs.GroupCalls.{globals_of, defined_of}
use Rattle.qtt_module.proofs.Agreeing.{same-type, other-type}
use Rattle.qtt_module.proofs.groups.Group.has_type.Goals as goal

pub returns-in_err-alike : goal.returns-in_err-alike
returns-in_err-alike g c =
    let E = env (globals_of c.args.self.now) in
    let N = c.args.self.now.elaborator.budget in
    let D = defined_of c.args.self.now in
    let e = c.in_err-alike.field-0.0 in
    passed _ _ _ _ c.from_residual.result e c.from_residual.ensures.1
    (here _ _ _ _ _ (subst (λ s. Refuses E N (alike (at s Test.body) 0 (term c.args.found.now) D.type) e)
    c.first.ensures c.in_err-alike.ensures))

pub returns-then-branch : goal.returns-then-branch
returns-then-branch g c =
    let E = env (globals_of c.args.self.now) in
    let N = c.args.self.now.elaborator.budget in
    let D = defined_of c.args.self.now in
    same-type D (term c.args.found.now)
    (subst (λ s. Reaches E N (alike (at s Test.body) 0 (term c.args.found.now) D.type) true) c.first.ensures
    (reached c.in_ok-alike.ensures c.if-branch.true))

pub returns : goal.returns
returns g c =
    let E = env (globals_of c.args.self.now) in
    let N = c.args.self.now.elaborator.budget in
    let D = defined_of c.args.self.now in
    let so = other-type D (term c.args.found.now)
    (subst (λ s. Reaches E N (alike (at s Test.body) 0 (term c.args.found.now) D.type) false) c.first.ensures
    (reached c.in_ok-alike.ensures c.if-branch.false)) in
    told E N _ _ _ c.in_ok-body_refused.field-0 so c.in_ok-body_refused.ensures
