use Rattle.std.proofs.Common.{◌≡◌, ◌∙◌, length, rules, subst, sym, true, false}
use Rattle.qtt_term.specs.Entries.{env}
use Rattle.qtt_term.specs.View.{term}
use Rattle.qtt_rules.specs.Asks.{alike}
use Rattle.qtt_rules.specs.Refusal.{Cause}
use Rattle.qtt_bidi.specs.Answers.{Reaches, Refuses, Fails}
use Rattle.qtt_bidi.proofs.Within.{here, passed, reached}
use Rattle.qtt_split.specs.Tests.{Test, at}
use Rattle.qtt_split.specs.View.{leaf_of}
use Rattle.qtt_module.specs.GroupCalls.{globals_of, same_asks}
use Rattle.qtt_module.proofs.Agreeing.{same-dot, other-dot}
use Rattle.qtt_module.proofs.Leafed.{depth-of}
use Rattle.qtt_module.proofs.groups.Group.agrees.Goals as goal

pub returns-in_err-alike : goal.returns-in_err-alike
returns-in_err-alike g c =
    let E = env (globals_of c.args.self.now) in
    let N = c.args.self.now.elaborator.budget in
    let e = c.in_err-alike.field-0.0 in
    let p = at c.args.span Test.dots in
    let m : c.in_ok-depth.depth ≡ length c.args.leaf.now.ctx.vars.items = search rules in
    let d = m ∙ depth-of c.args.leaf.now in
    passed _ _ _ _ c.from_residual-in_err-alike.result e c.from_residual-in_err-alike.ensures.1
    (here _ _ _ _ _ (subst (λ k. Refuses E N (alike p k (term c.args.found.now) (term c.args.expected.now)) e) d
    c.in_err-alike.ensures))

pub returns-then-branch : goal.returns-then-branch
returns-then-branch g c =
    let E = env (globals_of c.args.self.now) in
    let N = c.args.self.now.elaborator.budget in
    let p = at c.args.span Test.dots in
    let m : c.in_ok-depth.depth ≡ length c.args.leaf.now.ctx.vars.items = search rules in
    let d = m ∙ depth-of c.args.leaf.now in
    same-dot (leaf_of c.args.leaf.now) (term c.args.found.now) (term c.args.expected.now) c.args.span
    (subst (λ k. Reaches E N (alike p k (term c.args.found.now) (term c.args.expected.now)) true) d
    (reached c.in_ok-alike.ensures c.if-branch.true))

pub returns : goal.returns
returns g c =
    let E = env (globals_of c.args.self.now) in
    let N = c.args.self.now.elaborator.budget in
    let l = leaf_of c.args.leaf.now in
    let t = term c.args.found.now in
    let u = term c.args.expected.now in
    let p = at c.args.span Test.dots in
    let m : c.in_ok-depth.depth ≡ length c.args.leaf.now.ctx.vars.items = search rules in
    let d = m ∙ depth-of c.args.leaf.now in
    let asks = same_asks l t u c.args.span in
    let so = other-dot l t u c.args.span
    (subst (λ k. Reaches E N (alike p k t u) false) d (reached c.in_ok-alike.ensures c.if-branch.false)) in
    subst (λ k. Fails E N asks (Cause.dot_mismatch k (term c.in_ok-copy.field-0) (term c.in_ok-copy-2.field-0)) p)
    (sym d)
    (subst (λ x. Fails E N asks (Cause.dot_mismatch (length l.context) x (term c.in_ok-copy-2.field-0)) p)
    (sym c.in_ok-copy.ensures)
    (subst (λ x. Fails E N asks (Cause.dot_mismatch (length l.context) u x) p) (sym c.in_ok-copy-2.ensures) so))
