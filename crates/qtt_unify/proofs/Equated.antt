-- One equation within a budget, by its target.
use Rattle.std.proofs.Common.{◌≡◌, ℕ, ◌+◌, Bool, true, false, cond, ◌&&◌, eqb, List, [], ◌∷◌, length, None, Result, refl, sym, ◌∙◌, ap, subst}
use Rattle.qtt_term.specs.declared.term.Term as code
use Rattle.qtt_term.specs.declared.term.ConId.{ConId}
use Rattle.qtt_term.specs.Term.{Term, ◌+++◌, same_id}
use Rattle.qtt_term.specs.Signature.{Env}
use Rattle.qtt_term.specs.Contraction.{as_con}
use Rattle.qtt_term.specs.Ask.{Ask, ◌>>=◌}
use Rattle.qtt_term.specs.Premises.{head_of}
use Rattle.qtt_unify.specs.declared.error.UnifyError.{UnifyError}
use Rattle.qtt_unify.specs.Equations.{Found, against, stuck_at, equation, equations}
use Rattle.qtt_unify.specs.Unread.{con_of}
use Rattle.qtt_unify.specs.View.{Asks, all_terms, Reaches, Refuses, Gives}
use Rattle.qtt_unify.proofs.Fields.{equations-behind, as_con-of}
use Rattle.qtt_unify.proofs.Within.{here, tail}

head-then : {A : Type 0} (d : ℕ) (u : Term) (k : Term → Asks A) → Ask.head tt d u k ≡ (head_of tt d u >>= k)
unfolding ◌>>=◌
head-then d u k = refl

abbrev goes : ℕ → ℕ → ConId → List code.Term → List code.Term → Term → Term → Asks (List Found)
goes d m c ps fs u h =
    against c.family c.place (as_con h) (stuck_at m (con_of c ps fs) u)
    (λ us. equations tt d m (all_terms ps +++ all_terms fs) us (length ps))

con-asks : (d m : ℕ) (c : ConId) (ps fs : List code.Term) (u : Term) →
    equation tt d m (con_of c ps fs) u ≡ (head_of tt (d + m) u >>= goes d m c ps fs u)
con-asks d m c ps fs u = head-then (d + m) u (goes d m c ps fs u)

pub con-refused : (E : Env) (n : ℕ) (d m : ℕ) (c : ConId) (ps fs : List code.Term) (u : Term) (e : UnifyError) →
    Refuses E n (head_of tt (d + m) u) e → Refuses E n (equation tt d m (con_of c ps fs) u) e
con-refused E n d m c ps fs u e r =
    subst (λ l. Refuses E n l e) (sym (con-asks d m c ps fs u))
    (here E n (head_of tt (d + m) u) (goes d m c ps fs u) e r)

con-on : {E : Env} {n : ℕ} {X : Type 0} (d m : ℕ) (c : ConId) (ps fs : List code.Term) (u h : Term)
    (l : Asks (List Found)) (view : X → List Found) (r : Result X UnifyError) →
    Reaches E n (head_of tt (d + m) u) h → goes d m c ps fs u h ≡ l → Gives E n l view r →
    Gives E n (equation tt d m (con_of c ps fs) u) view r
con-on {E} {n} d m c ps fs u h l view r a e g =
    subst (λ k. Gives E n k view r) (sym (con-asks d m c ps fs u))
    (tail E n (head_of tt (d + m) u) (goes d m c ps fs u) view r a (subst (λ k. Gives E n k view r) (sym e) g))

apart-or : (d m : ℕ) (c o : ConId) (ps fs qs us : List code.Term) (u : Term) (b : Bool) →
    (same_id c.family o.family && eqb c.place o.place) ≡ b →
    goes d m c ps fs u (con_of o qs us)
    ≡ cond b (equations tt d m (all_terms fs) (all_terms us) 0) (Ask.done (Found.clashes ∷ []))
apart-or d m c o ps fs qs us u b e =
    ap (λ x. against c.family c.place x (stuck_at m (con_of c ps fs) u)
    (λ vs. equations tt d m (all_terms ps +++ all_terms fs) vs (length ps))) (as_con-of o qs us) ∙
    ap (λ x. cond x (equations tt d m (all_terms ps +++ all_terms fs) (all_terms us) (length ps))
    (Ask.done (Found.clashes ∷ []))) e ∙
    ap (λ l. cond b l (Ask.done (Found.clashes ∷ []))) (equations-behind tt d m ps (all_terms fs) (all_terms us))

pub con-same : {E : Env} {n : ℕ} {X : Type 0} (d m : ℕ) (c o : ConId) (ps fs qs us : List code.Term) (u : Term)
    (view : X → List Found) (r : Result X UnifyError) → Reaches E n (head_of tt (d + m) u) (con_of o qs us) →
    (same_id c.family o.family && eqb c.place o.place) ≡ true →
    Gives E n (equations tt d m (all_terms fs) (all_terms us) 0) view r →
    Gives E n (equation tt d m (con_of c ps fs) u) view r
con-same d m c o ps fs qs us u view r a e g =
    con-on d m c ps fs u (con_of o qs us) _ view r a (apart-or d m c o ps fs qs us u true e) g

pub con-apart : {E : Env} {n : ℕ} {X : Type 0} (d m : ℕ) (c o : ConId) (ps fs qs us : List code.Term) (u : Term)
    (view : X → List Found) (r : Result X UnifyError) → Reaches E n (head_of tt (d + m) u) (con_of o qs us) →
    (same_id c.family o.family && eqb c.place o.place) ≡ false →
    Gives E n (Ask.done (Found.clashes ∷ [])) view r → Gives E n (equation tt d m (con_of c ps fs) u) view r
con-apart d m c o ps fs qs us u view r a e g =
    con-on d m c ps fs u (con_of o qs us) _ view r a (apart-or d m c o ps fs qs us u false e) g

pub con-stuck : {E : Env} {n : ℕ} {X : Type 0} (d m : ℕ) (c : ConId) (ps fs : List code.Term) (u h : Term)
    (view : X → List Found) (r : Result X UnifyError) → Reaches E n (head_of tt (d + m) u) h → as_con h ≡ None →
    Gives E n (stuck_at m (con_of c ps fs) u) view r → Gives E n (equation tt d m (con_of c ps fs) u) view r
con-stuck d m c ps fs u h view r a e g =
    con-on d m c ps fs u h _ view r a
    (ap (λ x. against c.family c.place x (stuck_at m (con_of c ps fs) u)
    (λ vs. equations tt d m (all_terms ps +++ all_terms fs) vs (length ps))) e) g
