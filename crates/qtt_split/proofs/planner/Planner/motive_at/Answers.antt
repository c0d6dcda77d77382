use Rattle.std.proofs.Common.{◌≡◌, ◌∙◌, ap, sym, subst}
use Rattle.qtt_term.specs.Ask.{Ask}
use Rattle.qtt_term.specs.Entries.{entries, env}
use Rattle.qtt_term.specs.View.{term}
use Rattle.qtt_unify.specs.View.{all_terms, binders}
use Rattle.qtt_split.specs.Answers.{Reaches, Refuses}
use Rattle.qtt_split.specs.Divisions.{division_of}
use Rattle.qtt_split.specs.Motive.{reverted_goal, some_form, motive}
use Rattle.qtt_split.specs.Nodes.{node_of}
use Rattle.qtt_split.specs.Split.{level_of, level_where}
use Rattle.qtt_split.specs.Tests.{Test, at}
use Rattle.qtt_split.proofs.Within.{on, on_done, passed, here, reached}
use Rattle.qtt_split.proofs.planner.Planner.motive_at.Goals as goal

pub returns-in_err-level : goal.returns-in_err-level
returns-in_err-level g c =
    let E = env (entries c.args.self.now.unifier.globals.now) in
    let n = c.args.self.now.unifier.budget in
    let N = node_of c.args.node.now in
    let D = division_of N.context c.args.division.now in
    let S = D.over in
    let p = at D.span Test.level in
    let A = reverted_goal N.context c.args.reverted.now N.goal in
    let e = c.in_err-level.field-0.0 in
    let moved : term c.in_ok-goal.goal ≡ A =
    c.in_ok-goal.ensures ∙ ap (λ xs. reverted_goal (binders xs) c.args.reverted.now N.goal) c.deref.ensures.value in
    let asked : c.some_form-asked.result ≡ some_form S.targets =
    c.some_form-asked.ensures ∙ ap (λ xs. some_form (all_terms xs)) c.deref-2.ensures.value in
    passed E n _ _ c.from_residual-in_err-level.result e c.from_residual-in_err-level.ensures.1
    (here E n (level_where (some_form S.targets) (level_of E N.context p A))
    (λ l. Ask.done (motive (record { env = E; family = D.family; params = S.params; level = l }) S.targets S.variable
    A)) e
    (subst (λ b. Refuses E n (level_where b (level_of E N.context p A)) e) asked
    (subst (λ Γ. Refuses E n (level_where c.some_form-asked.result (level_of E (binders Γ) p A)) e)
    c.deref-3.ensures.value
    (subst (λ t. Refuses E n (level_where c.some_form-asked.result
    (level_of E (binders c.deref-3.result.now) p t)) e) moved c.in_err-level.ensures))))

pub returns : goal.returns
returns g c =
    let E = env (entries c.args.self.now.unifier.globals.now) in
    let n = c.args.self.now.unifier.budget in
    let N = node_of c.args.node.now in
    let D = division_of N.context c.args.division.now in
    let S = D.over in
    let p = at D.span Test.level in
    let A = reverted_goal N.context c.args.reverted.now N.goal in
    let l = c.in_ok-level.level in
    let moved : term c.in_ok-goal.goal ≡ A =
    c.in_ok-goal.ensures ∙ ap (λ xs. reverted_goal (binders xs) c.args.reverted.now N.goal) c.deref.ensures.value in
    let asked : c.some_form-asked.result ≡ some_form S.targets =
    c.some_form-asked.ensures ∙ ap (λ xs. some_form (all_terms xs)) c.deref-2.ensures.value in
    let level : Reaches E n (level_where (some_form S.targets) (level_of E N.context p A)) l =
    subst (λ b. Reaches E n (level_where b (level_of E N.context p A)) l) asked
    (subst (λ Γ. Reaches E n (level_where c.some_form-asked.result (level_of E (binders Γ) p A)) l)
    c.deref-3.ensures.value
    (subst (λ t. Reaches E n (level_where c.some_form-asked.result
    (level_of E (binders c.deref-3.result.now) p t)) l) moved c.in_ok-level.ensures)) in
    let made : term c.in_ok-motive.field-0
    ≡ motive (record { env = E; family = D.family; params = S.params; level = l }) S.targets S.variable A =
    c.in_ok-motive.ensures ∙
    ap (λ ps. motive (record { env = E; family = D.family; params = all_terms ps; level = l })
    (all_terms c.deref-5.result.now) S.variable (term c.in_ok-goal.goal)) c.deref-4.ensures.value ∙
    ap (λ ts. motive (record { env = E; family = D.family; params = S.params; level = l }) (all_terms ts) S.variable
    (term c.in_ok-goal.goal)) c.deref-5.ensures.value ∙
    ap (motive (record { env = E; family = D.family; params = S.params; level = l }) S.targets S.variable) moved in
    reached
    (on {E = E} {n = n} {m = level_where (some_form S.targets) (level_of E N.context p A)}
    (λ l. Ask.done (motive (record { env = E; family = D.family; params = S.params; level = l }) S.targets S.variable
    A)) level on_done) (sym made)
