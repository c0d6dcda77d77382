use Rattle.std.proofs.Common.{◌≡◌, ◌∙◌, length, map, ap, sym, subst}
use Rattle.qtt_term.specs.Ask.{Ask}
use Rattle.qtt_term.specs.Entries.{entries, env}
use Rattle.qtt_unify.specs.View.{all_terms}
use Rattle.qtt_split.specs.Answers.{Reaches, Refuses}
use Rattle.qtt_split.specs.Calls.{test_of}
use Rattle.qtt_split.specs.Nodes.{node_of}
use Rattle.qtt_split.specs.Split.{first_mentioning, nothing_there, reverted_at, unmentioned}
use Rattle.qtt_split.specs.Tests.{at}
use Rattle.qtt_split.proofs.Within.{on, on_done, passed, here, reached}
use Rattle.qtt_split.proofs.planner.Planner.reverts.Goals as goal

pub returns-in_err-unmentioned : goal.returns-in_err-unmentioned
returns-in_err-unmentioned g c =
    let E = env (entries c.args.self.now.unifier.globals.now) in
    let n = c.args.self.now.unifier.budget in
    let N = node_of c.args.node.now in
    let p = at c.args.span (test_of c.args.test) in
    let ts = all_terms c.args.terms.now in
    let rs = reverted_at N c.args.variable c.args.free.now in
    let e = c.in_err-unmentioned.field-0.0 in
    let xs = map (λ b. b.1) rs in
    let variables : c.deref-2.result.now ≡ xs =
    c.deref-2.ensures.value ∙ c.in_ok-variables.ensures ∙
    ap (map (λ b. b.1)) (c.deref.ensures.value ∙ c.in_ok-reverted.ensures) in
    passed E n _ _ c.from_residual-in_err-unmentioned.result e c.from_residual-in_err-unmentioned.ensures.1
    (here E n (unmentioned p (length N.context) rs ts) (λ u. Ask.done rs) e
    (subst (λ d. Refuses E n (nothing_there p d (first_mentioning xs ts)) e) c.in_ok-depth.ensures
    (subst (λ ys. Refuses E n (nothing_there p c.in_ok-depth.depth (first_mentioning ys ts)) e) variables
    c.in_err-unmentioned.ensures)))

pub returns : goal.returns
returns g c =
    let E = env (entries c.args.self.now.unifier.globals.now) in
    let n = c.args.self.now.unifier.budget in
    let N = node_of c.args.node.now in
    let p = at c.args.span (test_of c.args.test) in
    let ts = all_terms c.args.terms.now in
    let rs = reverted_at N c.args.variable c.args.free.now in
    let xs = map (λ b. b.1) rs in
    let variables : c.deref-2.result.now ≡ xs =
    c.deref-2.ensures.value ∙ c.in_ok-variables.ensures ∙
    ap (map (λ b. b.1)) (c.deref.ensures.value ∙ c.in_ok-reverted.ensures) in
    let none : Reaches E n (unmentioned p (length N.context) rs ts) tt =
    subst (λ d. Reaches E n (nothing_there p d (first_mentioning xs ts)) tt) c.in_ok-depth.ensures
    (subst (λ ys. Reaches E n (nothing_there p c.in_ok-depth.depth (first_mentioning ys ts)) tt) variables
    c.in_ok-unmentioned.ensures) in
    reached
    (on {E = E} {n = n} {m = unmentioned p (length N.context) rs ts} (λ u. Ask.done rs) none on_done)
    (sym c.in_ok-reverted.ensures)
