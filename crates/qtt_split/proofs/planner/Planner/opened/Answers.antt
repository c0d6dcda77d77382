use Rattle.std.proofs.Common.{◌≡◌, ◌++◌, ◌+◌, [], ◌∷◌, None, Some, rules, sym, subst}
use Rattle.qtt_rules.specs.Asks.{head_of}
use Rattle.qtt_rules.specs.Refusal.{Cause}
use Rattle.qtt_term.specs.Entries.{entries, env}
use Rattle.qtt_term.specs.Forms.{as_function}
use Rattle.qtt_term.specs.View.{term}
use Rattle.qtt_split.specs.Answers.{Reaches, Fails, Refuses}
use Rattle.qtt_split.specs.Calls.{function_of}
use Rattle.qtt_split.specs.Plan.{opened}
use Rattle.qtt_split.specs.Tests.{Test, at}
use Rattle.qtt_split.proofs.Binding.{OpenedSoFar, none-opened, one-opened, opening-refused, no-function, all-opened, pi-of}
use Rattle.qtt_split.proofs.Within.{passed, reached}
use Rattle.qtt_split.proofs.planner.Planner.opened.Goals as goal

pub loop-place-init : goal.loop-place-init
loop-place-init g c =
    let E = env (entries c.args.self.now.unifier.globals.now) in
    let n = c.args.self.now.unifier.budget in
    let A = term c.args.ty.now in
    let t = term c.in_ok-goal.goal in
    let none : c.in_ok-binders.binders.items ≡ [] = search rules in
    let same : t ≡ A = search rules in
    subst (λ bs. OpenedSoFar E n c.args.self.now.first c.args.count A 0 bs t) (sym none)
    (none-opened E n c.args.self.now.first c.args.count A t same)

pub returns-in_err-head : goal.returns-in_err-head
returns-in_err-head g c =
    let E = env (entries c.args.self.now.unifier.globals.now) in
    let n = c.args.self.now.unifier.budget in
    let s = c.args.self.now.first in
    let t = term c.loop-place.goal in
    let e = c.in_err-head.field-0.0 in
    passed E n _ _ c.from_residual-in_err-head.result e c.from_residual-in_err-head.ensures.1
    (opening-refused E n s c.args.count (term c.args.ty.now) c.loop-place.place c.loop-place.binders.items t e
    c.loop-place-test.true
    (subst (λ d. Refuses E n (head_of (at s Test.opens) d t) e) c.in_ok-depth.ensures c.in_err-head.ensures)
    c.loop-place.invariant)

pub returns-in_default : goal.returns-in_default
returns-in_default g c =
    let E = env (entries c.args.self.now.unifier.globals.now) in
    let n = c.args.self.now.unifier.budget in
    let s = c.args.self.now.first in
    let A = term c.args.ty.now in
    let t = term c.loop-place.goal in
    let h = term c.in_ok-head.head in
    let none : as_function h ≡ None = sym (rw c.in_default.is at c.as_function.ensures) in
    let at_head : Reaches E n (head_of (at s Test.opens) c.loop-place.place t) h =
    subst (λ d. Reaches E n (head_of (at s Test.opens) d t) h) c.in_ok-depth.ensures c.in_ok-head.ensures in
    subst (λ e. Refuses E n (opened s c.args.count [] A) e) (sym c.refused.ensures)
    (subst (λ d. Fails E n (opened s c.args.count [] A) (Cause.not_a_function d t) (at s Test.opens))
    (sym c.in_ok-depth.ensures)
    (no-function E n s c.args.count A c.loop-place.place c.loop-place.binders.items t h c.loop-place-test.true at_head
    none c.loop-place.invariant))

pub loop-place-preserved : goal.loop-place-preserved
loop-place-preserved g c =
    let E = env (entries c.args.self.now.unifier.globals.now) in
    let n = c.args.self.now.unifier.budget in
    let s = c.args.self.now.first in
    let A = term c.args.ty.now in
    let t = term c.loop-place.goal in
    let h = term c.in_ok-head.head in
    let f = c.in-Some.function in
    let form : as_function h ≡ Some (function_of f) = sym (rw c.in-Some.is at c.as_function.ensures) in
    let at_head : Reaches E n (head_of (at s Test.opens) c.loop-place.place t) h =
    subst (λ d. Reaches E n (head_of (at s Test.opens) d t) h) c.in_ok-depth.ensures c.in_ok-head.ensures in
    let now : c.push.new.self.items ≡ c.loop-place.binders.items ++ (f.mult, f.domain) ∷ [] = search rules in
    subst (λ bs. OpenedSoFar E n s c.args.count A (c.loop-place.place + 1) bs (term f.codomain)) (sym now)
    (one-opened E n s c.args.count A c.loop-place.place c.loop-place.binders.items t f.mult f.domain (term f.codomain)
    c.loop-place-test.true (reached at_head (pi-of h (function_of f) form)) c.loop-place.invariant)

pub returns : goal.returns
returns g c =
    all-opened (env (entries c.args.self.now.unifier.globals.now)) c.args.self.now.unifier.budget
    c.args.self.now.first c.args.count (term c.args.ty.now) c.loop-place.place c.loop-place.binders.items
    (term c.loop-place.goal) c.loop-place-test.false c.loop-place.invariant
