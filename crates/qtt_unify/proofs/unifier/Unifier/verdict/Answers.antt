use Rattle.std.proofs.Common.{◌≡◌, ◌+◌, Some, None, length, map, sym, ap, subst, ◌∙◌}
use Rattle.qtt_term.specs.Globals.{env}
use Rattle.qtt_term.specs.Substitution.{ren, shift}
use Rattle.qtt_term.specs.View.{term}
use Rattle.qtt_term.proofs.Moves.{raised-zero}
use Rattle.qtt_unify.specs.Targets.{unsolvable}
use Rattle.qtt_unify.specs.Equations.{Verdict, equations, verdict}
use Rattle.qtt_unify.specs.View.{all_terms, binders, scrutinee, found, verdict as verdict_of, Reaches, Refuses}
use Rattle.qtt_unify.proofs.Judging.{unsolvable-reaches, equations-refused, equations-reach}
use Rattle.qtt_unify.proofs.Within.{passed}
use Rattle.qtt_unify.proofs.unifier.Unifier.verdict.Goals as goal

pub returns-in-Some : goal.returns-in-Some
returns-in-Some g c =
    let E = env c.args.self.now.globals.now in
    let S = scrutinee c.args.scrutinee.now in
    let m = c.args.fields in
    let us = all_terms c.args.results.now in
    let u = term c.in-Some.found.now in
    let t = term c.in-Some.index.now in
    let there : unsolvable E S S.targets S.indices us ≡ Some (u, t) =
    sym (rw c.in-Some.is at c.in_ok-found.ensures) in
    let inner : c.in_ok-inner.inner ≡ length (binders c.args.scrutinee.now.context.now) + m =
    c.in_ok-inner.ensures ∙ ap (λ k. k + m) c.in_ok-depth.ensures in
    let index : term c.in_ok-index.index ≡ ren (shift m) t = c.in_ok-index.ensures ∙ raised-zero m t in
    let copy : term c.in_ok-copy.field-0 ≡ u = c.in_ok-copy.ensures in
    unsolvable-reaches E c.args.self.now.budget S m us u t _ there
    (ap (λ k. Verdict.stuck k (term c.in_ok-copy.field-0) (term c.in_ok-index.index)) inner ∙
    ap (λ x. Verdict.stuck (length S.context + m) x (term c.in_ok-index.index)) copy ∙
    ap (λ x. Verdict.stuck (length S.context + m) u x) index)

pub returns-in_err-found-2 : goal.returns-in_err-found-2
returns-in_err-found-2 g c =
    let E = env c.args.self.now.globals.now in
    let n = c.args.self.now.budget in
    let S = scrutinee c.args.scrutinee.now in
    let m = c.args.fields in
    let us = all_terms c.args.results.now in
    let e = c.in_err-found-2.field-0.0 in
    let none : unsolvable E S S.targets S.indices us ≡ None = sym (rw c.in_default.is at c.in_ok-found.ensures) in
    let depth : c.in_ok-depth.depth ≡ length S.context = c.in_ok-depth.ensures in
    passed _ _ _ _ c.from_residual-in_err-found-2.result e c.from_residual-in_err-found-2.ensures.1
    (equations-refused E n S m us e none
    (subst (λ k. Refuses E n (equations tt k m S.targets us 0) e) depth c.in_err-found-2.ensures))

pub returns : goal.returns
returns g c =
    let E = env c.args.self.now.globals.now in
    let n = c.args.self.now.budget in
    let S = scrutinee c.args.scrutinee.now in
    let m = c.args.fields in
    let us = all_terms c.args.results.now in
    let xs = map found c.in_ok-found-2.found.items in
    let none : unsolvable E S S.targets S.indices us ≡ None = sym (rw c.in_default.is at c.in_ok-found.ensures) in
    let depth : c.in_ok-depth.depth ≡ length S.context = c.in_ok-depth.ensures in
    let inner : c.in_ok-inner.inner ≡ length S.context + m = c.in_ok-inner.ensures ∙ ap (λ k. k + m) depth in
    let verdict_is : verdict_of c.in_ok-verdict_of_all.field-0 ≡ verdict c.in_ok-inner.inner xs =
    c.in_ok-verdict_of_all.ensures in
    equations-reach E n S m us xs (verdict_of c.in_ok-verdict_of_all.field-0) none
    (subst (λ k. Reaches E n (equations tt k m S.targets us 0) xs) depth c.in_ok-found-2.ensures)
    (verdict_is ∙ ap (λ k. verdict k xs) inner)
