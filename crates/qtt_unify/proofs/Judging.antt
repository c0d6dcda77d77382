-- The verdict of a constructor within a budget.
use Rattle.std.proofs.Common.{◌≡◌, ℕ, ◌+◌, List, length, Some, None, sym, subst}
use Rattle.qtt_term.specs.Term.{Term, Terms}
use Rattle.qtt_term.specs.Substitution.{ren, shift}
use Rattle.qtt_term.specs.Signature.{Env}
use Rattle.qtt_term.specs.Ask.{Ask}
use Rattle.qtt_unify.specs.declared.error.UnifyError.{UnifyError}
use Rattle.qtt_unify.specs.Targets.{Scrutinee, unsolvable}
use Rattle.qtt_unify.specs.Equations.{Found, equations, Verdict, verdict, or_equations, constructor_verdict}
use Rattle.qtt_unify.specs.View.{Reaches, Refuses}
use Rattle.qtt_unify.proofs.Within.{on, on_done, here, reached}

pub unsolvable-reaches : (E : Env) (n : ℕ) (S : Scrutinee) (m : ℕ) (us : Terms) (u t : Term) (v : Verdict) →
    unsolvable E S S.targets S.indices us ≡ Some (u, t) →
    v ≡ Verdict.stuck (length S.context + m) u (ren (shift m) t) → Reaches E n (constructor_verdict E tt S m us) v
unfolding constructor_verdict
unsolvable-reaches E n S m us u t v e h =
    reached (subst (λ o. Reaches E n (or_equations tt S m us o) (Verdict.stuck (length S.context + m) u (ren (shift m)
    t)))
    (sym e) on_done) (sym h)

pub equations-refused : (E : Env) (n : ℕ) (S : Scrutinee) (m : ℕ) (us : Terms) (r : UnifyError) →
    unsolvable E S S.targets S.indices us ≡ None →
    Refuses E n (equations tt (length S.context) m S.targets us 0) r → Refuses E n (constructor_verdict E tt S m us) r
unfolding constructor_verdict
equations-refused E n S m us r e h =
    subst (λ o. Refuses E n (or_equations tt S m us o) r) (sym e)
    (here E n (equations tt (length S.context) m S.targets us 0)
    (λ xs. Ask.done (verdict (length S.context + m) xs)) r h)

pub equations-reach : (E : Env) (n : ℕ) (S : Scrutinee) (m : ℕ) (us : Terms) (xs : List Found) (v : Verdict) →
    unsolvable E S S.targets S.indices us ≡ None →
    Reaches E n (equations tt (length S.context) m S.targets us 0) xs → v ≡ verdict (length S.context + m) xs →
    Reaches E n (constructor_verdict E tt S m us) v
unfolding constructor_verdict
equations-reach E n S m us xs v e h k =
    subst (λ o. Reaches E n (or_equations tt S m us o) v) (sym e)
    (on (λ ys. Ask.done (verdict (length S.context + m) ys)) h (reached on_done (sym k)))
