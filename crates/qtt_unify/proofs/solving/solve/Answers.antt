use Rattle.std.proofs.Common.{◌≡◌, length, ap, subst, ◌∙◌}
use Rattle.qtt_term.specs.Globals.{env}
use Rattle.qtt_unify.specs.Targets.{readings}
use Rattle.qtt_unify.specs.Equations.{constructor_verdict}
use Rattle.qtt_unify.specs.Problems.{scrutinee, solved_by}
use Rattle.qtt_unify.specs.View.{all_terms, binders, problem, verdict, solved, Reaches, Refuses, Gives}
use Rattle.qtt_unify.proofs.Unified.{targets-refused, verdict-refused, decision-given, scrutinee-lent}
use Rattle.qtt_unify.proofs.solving.solve.Goals as goal

pub returns-in_err-targets : goal.returns-in_err-targets
returns-in_err-targets g c =
    let E = env c.args.env.now in
    let n = c.args.budget in
    let Q = problem c.args.problem.now in
    let d = c.in_ok-depth.depth in
    let e = c.in_err-targets.field-0.0 in
    let depth : d ≡ length Q.context = c.in_ok-depth.ensures ∙ ap (λ x. length (binders x)) c.deref.ensures.value in
    targets-refused E n Q d e c.from_residual-in_err-targets.result depth
    (subst (λ x. Refuses E n (readings tt d (all_terms x)) e) c.deref-2.ensures.value c.in_err-targets.ensures)
    c.from_residual-in_err-targets.ensures.1

pub returns-in_err-verdict : goal.returns-in_err-verdict
returns-in_err-verdict g c =
    let E = env c.args.env.now in
    let n = c.args.budget in
    let P = c.args.problem.now in
    let Q = problem P in
    let d = c.in_ok-depth.depth in
    let vs = c.in_ok-targets.targets.items in
    let e = c.in_err-verdict.field-0.0 in
    let depth : d ≡ length Q.context = c.in_ok-depth.ensures ∙ ap (λ x. length (binders x)) c.deref.ensures.value in
    let S = scrutinee-lent P vs _ _ _ _ c.deref-3.ensures.value c.deref-4.ensures.value c.deref-5.ensures.value
    c.deref-6.ensures.value in
    verdict-refused E n Q d (all_terms vs) e c.from_residual-in_err-verdict.result depth
    (subst (λ x. Reaches E n (readings tt d (all_terms x)) (all_terms vs)) c.deref-2.ensures.value
    c.in_ok-targets.ensures)
    (subst (λ x. Refuses E n (constructor_verdict E tt (scrutinee Q (all_terms vs)) 0 (all_terms x)) e)
    c.deref-7.ensures.value
    (subst (λ x. Refuses E n (constructor_verdict E tt x 0 (all_terms c.deref-7.result.now)) e) S
    c.in_err-verdict.ensures))
    c.from_residual-in_err-verdict.ensures.1

pub returns : goal.returns
returns g c =
    let E = env c.args.env.now in
    let n = c.args.budget in
    let P = c.args.problem.now in
    let Q = problem P in
    let d = c.in_ok-depth.depth in
    let vs = c.in_ok-targets.targets.items in
    let v = verdict c.in_ok-verdict.verdict in
    let r = c.solved_by.result in
    let depth : d ≡ length Q.context = c.in_ok-depth.ensures ∙ ap (λ x. length (binders x)) c.deref.ensures.value in
    let S = scrutinee-lent P vs _ _ _ _ c.deref-3.ensures.value c.deref-4.ensures.value c.deref-5.ensures.value
    c.deref-6.ensures.value in
    decision-given E n Q d (all_terms vs) v r depth
    (subst (λ x. Reaches E n (readings tt d (all_terms x)) (all_terms vs)) c.deref-2.ensures.value
    c.in_ok-targets.ensures)
    (subst (λ x. Reaches E n (constructor_verdict E tt (scrutinee Q (all_terms vs)) 0 (all_terms x)) v)
    c.deref-7.ensures.value
    (subst (λ x. Reaches E n (constructor_verdict E tt x 0 (all_terms c.deref-7.result.now)) v) S
    c.in_ok-verdict.ensures))
    (subst (λ x. Gives E n (solved_by tt Q.family x v) solved r) S c.solved_by.ensures)
