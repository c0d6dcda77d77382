-- What the answers of a problem mean.
use Rattle.std.proofs.Common.{◌≡◌, ℕ, List, length, Result, Ok, Err, IsErrAnd, ap, subst, ◌∙◌}
use Rattle.qtt_usage.specs.declared.mult.Mult.{Mult}
use Rattle.qtt_term.specs.declared.term.Term as code
use Rattle.qtt_term.specs.Term.{Terms}
use Rattle.qtt_term.specs.Signature.{Env}
use Rattle.qtt_term.specs.Ask.{◌>>=◌}
use Rattle.qtt_term.specs.FirstSpent.{Says}
use Rattle.qtt_confluence.proofs.Endings.{says}
use Rattle.qtt_unify.specs.declared.error.UnifyError.{UnifyError}
use Rattle.qtt_unify.specs.declared.error.UnifyError.TheVariants as error
use Rattle.qtt_unify.specs.declared.solving.Solved as code_solved
use Rattle.qtt_unify.specs.declared.solving.Problem as code_problem
use Rattle.qtt_unify.specs.Targets.{Scrutinee, readings}
use Rattle.qtt_unify.specs.Equations.{Verdict, constructor_verdict}
use Rattle.qtt_unify.specs.Problems.{Problem, Solved, scrutinee, solved_by, solve}
use Rattle.qtt_unify.specs.View.{Asks, all_terms, binders, problem, solved, Reaches, Refuses, Gives, asks, Unified}
use Rattle.qtt_unify.proofs.Relation.{equations_are_the_relation}
use Rattle.qtt_unify.proofs.Within.{here, later, tail, passed}

unified : (E : Env) (n : ℕ) (Q : Problem) (r : Result code_solved.Solved UnifyError) →
    Gives E n (asks E Q) solved r → Unified E n Q r
unified E n Q (Ok s) g = record {
  gives = g;
  means = ((equations_are_the_relation ⊥ (Unit {0})).problems E tt Q (solved s)).0
      (subst (λ e. Says E n (asks E Q) e) g.is (says E n (asks E Q)));
  spent = tt;
}
unified E n Q (Err (error.Spent q)) g = record {
  gives = g;
  means = tt;
  spent = subst (λ e. Says E n (asks E Q) e) g.is (says E n (asks E Q));
}
unified E n Q (Err error.Memory) g = record { gives = g; means = tt; spent = tt }

-- ---- part by part
-- the questions behind the targets, and behind the verdict
abbrev decided : Problem → Terms → Verdict → Asks Solved
decided Q ts v = solved_by tt Q.family (scrutinee Q ts) v

abbrev judged : Env → Problem → Terms → Asks Verdict
judged E Q ts = constructor_verdict E tt (scrutinee Q ts) 0 Q.results

abbrev behind : Env → Problem → Terms → Asks Solved
behind E Q ts = judged E Q ts >>= (λ v. decided Q ts v)

abbrev targets : Problem → ℕ → Asks Terms
targets Q d = readings tt d Q.indices

pub targets-refused : (E : Env) (n : ℕ) (Q : Problem) (d : ℕ) (e : UnifyError)
    (r : Result code_solved.Solved UnifyError) → d ≡ length Q.context → Refuses E n (targets Q d) e →
    IsErrAnd r (λ y. y ≡ e) → Unified E n Q r
unfolding solve
targets-refused E n Q d e r w h p =
    unified E n Q r (passed E n (asks E Q) solved r e p
    (here E n (targets Q (length Q.context)) (behind E Q) e (subst (λ k. Refuses E n (targets Q k) e) w h)))

pub verdict-refused : (E : Env) (n : ℕ) (Q : Problem) (d : ℕ) (ts : Terms) (e : UnifyError)
    (r : Result code_solved.Solved UnifyError) → d ≡ length Q.context → Reaches E n (targets Q d) ts →
    Refuses E n (judged E Q ts) e → IsErrAnd r (λ y. y ≡ e) → Unified E n Q r
unfolding solve
verdict-refused E n Q d ts e r w t h p =
    unified E n Q r (passed E n (asks E Q) solved r e p
    (later E n (targets Q (length Q.context)) (behind E Q) e (subst (λ k. Reaches E n (targets Q k) ts) w t)
    (here E n (judged E Q ts) (decided Q ts) e h)))

pub decision-given : (E : Env) (n : ℕ) (Q : Problem) (d : ℕ) (ts : Terms) (v : Verdict)
    (r : Result code_solved.Solved UnifyError) → d ≡ length Q.context → Reaches E n (targets Q d) ts →
    Reaches E n (judged E Q ts) v → Gives E n (decided Q ts v) solved r → Unified E n Q r
unfolding solve
decision-given E n Q d ts v r w t h g =
    unified E n Q r
    (tail E n (targets Q (length Q.context)) (behind E Q) solved r (subst (λ k. Reaches E n (targets Q k) ts) w t)
    (tail E n (judged E Q ts) (decided Q ts) solved r h g))

-- ---- as the parts were lent
abbrev lent : ℕ → List (Mult × code.Term) → (params indices targets : List code.Term) → Scrutinee
lent v bs ps is ts = record {
  context = binders bs;
  variable = v;
  params = all_terms ps;
  indices = all_terms is;
  targets = all_terms ts;
}

pub scrutinee-lent : (P : code_problem.Problem) (vs : List code.Term) (bs : List (Mult × code.Term))
    (ps is ts : List code.Term) → bs ≡ P.ctx.vars.items → ps ≡ P.params.items → is ≡ P.targets.items → ts ≡ vs →
    lent P.scrutinee bs ps is ts ≡ scrutinee (problem P) (all_terms vs)
scrutinee-lent P vs bs ps is ts context params indices targets =
    ap (λ x. lent P.scrutinee x ps is ts) context ∙
    ap (λ x. lent P.scrutinee P.ctx.vars.items x is ts) params ∙
    ap (λ x. lent P.scrutinee P.ctx.vars.items P.params.items x ts) indices ∙
    ap (λ x. lent P.scrutinee P.ctx.vars.items P.params.items P.targets.items x) targets
