-- The lists of questions of index equations end as the relation says.
use Rattle.std.proofs.Common.{◌≡◌, ℕ, zero, suc, ◌+◌, Bool, true, false, cond, ◌&&◌, eqb, List, [], ◌∷◌, ◌++◌, length, Option, Some, None, refl, sym, ◌∙◌, ap, subst}
use Rattle.std.proofs.lemmas.Bool.{eq-eqb, eqb-true, and_parts, and_from}
use mathlib.Core.Path.{ap₂}
use Rattle.qtt_base.specs.declared.place.GlobalId.{GlobalId}
use Rattle.qtt_term.specs.Term.{Form, Term, Terms, var, node, ε, ◌▸◌, skip, same_id}
use Rattle.qtt_term.specs.Substitution.{ren, shift}
use Rattle.qtt_term.specs.Signature.{Env, eq_id}
use Rattle.qtt_term.specs.Contraction.{Made, as_con, BodiesClosed}
use Rattle.qtt_term.specs.Ask.{Ask, ◌>>=◌, Ending, Ends, HeadIs, ReadingIs}
use Rattle.qtt_term.specs.Premises.{reading_of}
use Rattle.qtt_term.proofs.Same.{same_id-is, id-same}
use Rattle.qtt_confluence.proofs.Endings.{one-ending}
use Rattle.qtt_unify.specs.Targets.{Scrutinee, readings, unsolvable}
use Rattle.qtt_unify.specs.Equations.{Found, against, stuck_at, equation, equations, Verdict, verdict, unsolvable_stuck, or_equations, constructor_verdict}
use Rattle.qtt_unify.specs.Deletion.{Deletion, of_points, deletion}
use Rattle.qtt_unify.specs.Problems.{Problem, Solved, scrutinee, or_deletion, solved_by, solve}
use Rattle.qtt_unify.specs.Unification.{Equation, Equations, Concludes, HasVerdict, ReadingsAre, IsProof, IsDeletion, IsNoDeletion, Unifies}
use Rattle.qtt_unify.specs.Laws.{EquationsAreTheRelation, OneOfFour}
use Rattle.qtt_unify.proofs.Endings.{parts, and_then, ended, ends_with, NoFailure, no_failure-then, never}
use Rattle.qtt_unify.proofs.Verdicts.{one_verdict}

-- ---- equations
equations-skip : {F P : Type 0} (p : P) (n m : ℕ) (ts us : Terms) (k : ℕ) →
    equations {F = F} p n m ts us k ≡ equations p n m (skip k ts) us zero
equations-skip p n m ts us zero = refl
equations-skip p n m ε us (suc k) = refl
equations-skip {F} p n m (t ▸ ts) us (suc k) = equations-skip {F = F} p n m ts us k

against-found : {F P : Type 0} (E : Env) (p : P) (n m : ℕ) (f : GlobalId) (c k : ℕ) (ts : Terms) (u h : Term)
    (xs : List Found) (o : Option Made) → as_con h ≡ o → HeadIs E u h →
    Ends E (against {F = F} f c o (stuck_at m (node (Form.con f c k) ts) u) (λ us. equations p n m ts us k))
    (Ending.ok xs) →
    ((us : Terms) → Ends E (equations {F = F} p n m ts us k) (Ending.ok xs) → Equations E m (skip k ts) us xs) →
    Equation E m (node (Form.con f c k) ts) u xs
against-found E p n m f c k ts u h xs None e i x fields =
    subst (λ ys. Equation E m (node (Form.con f c k) ts) u ys) (ended _ xs x) (Equation.no_constructor i e)
against-found {F} E p n m f c k ts u h xs (Some (Made.made g d us)) e i x fields =
    by_test (same_id f g && eqb c d) refl x
  where
    here : (same_id f g && eqb c d) ≡ true → Made.made g d us ≡ Made.made f c us
    here s =
        let both = and_parts (same_id f g) (eqb c d) s in
        ap₂ (λ y z. Made.made y z us) (sym (same_id-is f g both.0)) (sym (eqb-true c d both.1))

    by_test : (b : Bool) → (same_id f g && eqb c d) ≡ b →
        Ends E (cond b (equations {F = F} p n m ts us k) (Ask.done (Found.clashes ∷ []))) (Ending.ok xs) →
        Equation E m (node (Form.con f c k) ts) u xs
    by_test true s y = Equation.injectivity i (e ∙ ap Some (here s)) (fields us y)
    by_test false s y =
        subst (λ ys. Equation E m (node (Form.con f c k) ts) u ys) (ended _ xs y) (Equation.conflict i e s)

mutual
  equation-found : {F P : Type 0} (E : Env) (p : P) (n m : ℕ) (t u : Term) (xs : List Found) →
      Ends E (equation {F = F} p n m t u) (Ending.ok xs) → Equation E m t u xs
  equation-found E p n m (var i) u xs x =
      subst (λ ys. Equation E m (var i) u ys) (ended _ xs x) Equation.solution
  equation-found {F} E p n m (node (Form.con f c k) ts) u xs (Ends.has_head {h = h} e x) =
      against-found {F = F} E p n m f c k ts u h xs (as_con h) refl e x
      (λ us y. equations-found {F = F} E p n m ts us k xs y)
  equation-found E p n m (node F ts) u xs x =
      subst (λ ys. Equation E m (node F ts) u ys) (ended _ xs x) (Equation.other_target refl)

  equations-found : {F P : Type 0} (E : Env) (p : P) (n m : ℕ) (ts us : Terms) (k : ℕ) (xs : List Found) →
      Ends E (equations {F = F} p n m ts us k) (Ending.ok xs) → Equations E m (skip k ts) us xs
  equations-found E p n m ε us zero xs x = subst (λ ys. Equations E m ε us ys) (ended _ xs x) Equations.no_target
  equations-found E p n m ε us (suc k) xs x = subst (λ ys. Equations E m ε us ys) (ended _ xs x) Equations.no_target
  equations-found {F} E p n m (t ▸ ts) us (suc k) xs x = equations-found {F = F} E p n m ts us k xs x
  equations-found E p n m (t ▸ ts) ε zero xs x =
      subst (λ ys. Equations E m (t ▸ ts) ε ys) (ended _ xs x) Equations.no_result
  equations-found {F} E p n m (t ▸ ts) (u ▸ us) zero xs x =
      let r = parts (equation {F = F} p n m t u)
      (λ ys. equations p n m ts us zero >>= λ zs. Ask.done (ys ++ zs)) xs x in
      let q = parts (equations {F = F} p n m ts us zero) (λ zs. Ask.done (r.mid ++ zs)) xs r.after in
      subst (λ ys. Equations E m (t ▸ ts) (u ▸ us) ys) (ended _ xs q.after)
      (Equations.and_more (equation-found {F = F} E p n m t u r.mid r.first)
      (equations-found {F = F} E p n m ts us zero q.mid q.first))

other-asked : {F P : Type 0} (E : Env) (p : P) (n m : ℕ) (G : Form) (ts : Terms) (u : Term) →
    as_con (node G ts) ≡ None →
    Ends E (equation {F = F} p n m (node G ts) u) (Ending.ok (Found.sticks u (ren (shift m) (node G ts)) ∷ []))
other-asked E p n m (Form.con f c k) ts u e = absurd (cc e)
other-asked E p n m G ts u e = Ends.is_done

against-asked : {F P : Type 0} (E : Env) (f g : GlobalId) (c d : ℕ) (us : Terms) (b : Bool)
    (otherwise : Ask F P (List Found)) (fields : Terms → Ask F P (List Found)) (h : Term) (e : Ending F P (List Found))
    →
    as_con h ≡ Some (Made.made g d us) → (same_id f g && eqb c d) ≡ b →
    Ends E (cond b (fields us) (Ask.done (Found.clashes ∷ []))) e → Ends E (against f c (as_con h) otherwise fields) e
against-asked E f g c d us b otherwise fields h e i s x =
    subst (λ o. Ends E (against f c o otherwise fields) e) (sym i)
    (subst (λ y. Ends E (cond y (fields us) (Ask.done (Found.clashes ∷ []))) e) (sym s) x)

mutual
  equation-asked : {F P : Type 0} (E : Env) (p : P) (n m : ℕ) (t u : Term) (xs : List Found) → Equation E m t u xs →
      Ends E (equation {F = F} p n m t u) (Ending.ok xs)
  equation-asked E p n m t u xs Equation.solution = Ends.is_done
  equation-asked {F} E p n m t u xs (Equation.injectivity {f} {c} {k} {ts} {us} {h = h} i e r) =
      Ends.has_head i (against-asked E f f c c us true (stuck_at m (node (Form.con f c k) ts) u)
      (λ vs. equations {F = F} p n m ts vs k) h (Ending.ok xs) e
      (and_from (same_id f f) (eqb c c) (id-same f) (eq-eqb c c refl))
      (subst (λ l. Ends E l (Ending.ok xs)) (sym (equations-skip {F = F} p n m ts us k))
      (equations-asked {F = F} E p n m (skip k ts) us xs r)))
  equation-asked {F} E p n m t u xs (Equation.conflict {f} {g} {c} {d} {k} {ts} {us} {h = h} i e s) =
      Ends.has_head i (against-asked E f g c d us false (stuck_at m (node (Form.con f c k) ts) u)
      (λ vs. equations {F = F} p n m ts vs k) h (Ending.ok xs) e s Ends.is_done)
  equation-asked {F} E p n m t u xs (Equation.no_constructor {f} {c} {k} {ts} {h = h} i e) =
      Ends.has_head i (subst (λ o. Ends E (against {F = F} f c o (stuck_at m (node (Form.con f c k) ts) u)
      (λ vs. equations p n m ts vs k)) (Ending.ok xs)) (sym e) Ends.is_done)
  equation-asked {F} E p n m t u xs (Equation.other_target {F = G} {ts} e) = other-asked {F = F} E p n m G ts u e

  equations-asked : {F P : Type 0} (E : Env) (p : P) (n m : ℕ) (ts us : Terms) (xs : List Found) →
      Equations E m ts us xs → Ends E (equations {F = F} p n m ts us zero) (Ending.ok xs)
  equations-asked E p n m ts us xs Equations.no_target = Ends.is_done
  equations-asked E p n m ts us xs Equations.no_result = Ends.is_done
  equations-asked {F} E p n m _ _ _ (Equations.and_more {t} {u} {ts} {us} {xs} {ys} a b) =
      and_then (equation {F = F} p n m t u) (λ vs. equations p n m ts us zero >>= λ zs. Ask.done (vs ++ zs))
      (equation-asked {F = F} E p n m t u xs a)
      (and_then (equations {F = F} p n m ts us zero) (λ zs. Ask.done (xs ++ zs))
      (equations-asked {F = F} E p n m ts us ys b) Ends.is_done)

-- ---- a constructor
verdict-found : {F P : Type 0} (E : Env) (p : P) (S : Scrutinee) (m : ℕ) (results : Terms) (v : Verdict) →
    Ends E (constructor_verdict {F = F} E p S m results) (Ending.ok v) → HasVerdict E S m results v
unfolding constructor_verdict
verdict-found {F} E p S m results v x = by_pair (unsolvable E S S.targets S.indices results) refl x
  where
    by_pair : (o : Option (Term × Term)) → unsolvable E S S.targets S.indices results ≡ o →
        Ends E (or_equations {F = F} p S m results o) (Ending.ok v) → HasVerdict E S m results v
    by_pair (Some e) i y = subst (λ w. HasVerdict E S m results w) (ended _ v y) (HasVerdict.not_solvable i)
    by_pair None i y =
        let r = parts (equations {F = F} p (length S.context) m S.targets results zero)
        (λ xs. Ask.done (verdict (length S.context + m) xs)) v y in
        HasVerdict.by_equations i (equations-found {F = F} E p (length S.context) m S.targets results zero r.mid
        r.first)
        (subst (λ w. Concludes (length S.context + m) r.mid w) (ended _ v r.after)
        (one_verdict.computed (length S.context + m) r.mid))

verdict-asked : {F P : Type 0} (E : Env) (p : P) (S : Scrutinee) (m : ℕ) (results : Terms) (v : Verdict) →
    HasVerdict E S m results v → Ends E (constructor_verdict {F = F} E p S m results) (Ending.ok v)
unfolding constructor_verdict
verdict-asked {F} E p S m results v (HasVerdict.not_solvable {e} i) =
    subst (λ o. Ends E (or_equations {F = F} p S m results o) (Ending.ok (unsolvable_stuck (length S.context) m e)))
    (sym i) Ends.is_done
verdict-asked {F} E p S m results v (HasVerdict.by_equations {xs} i r c) =
    subst (λ o. Ends E (or_equations {F = F} p S m results o) (Ending.ok v)) (sym i)
    (and_then (equations {F = F} p (length S.context) m S.targets results zero)
    (λ ys. Ask.done (verdict (length S.context + m) ys))
    (equations-asked {F = F} E p (length S.context) m S.targets results xs r)
    (ends_with (one_verdict.alone (length S.context + m) xs v c)))

-- ---- readings
readings-found : {F P : Type 0} (E : Env) (p : P) (n : ℕ) (ts rs : Terms) →
    Ends E (readings {F = F} p n ts) (Ending.ok rs) → ReadingsAre E ts rs
readings-found E p n ε rs x = subst (λ ss. ReadingsAre E ε ss) (ended _ rs x) ReadingsAre.none_read
readings-found {F} E p n (t ▸ ts) rs x =
    let r = parts (reading_of {F = F} p n t) (λ s. readings p n ts >>= λ ss. Ask.done (s ▸ ss)) rs x in
    let q = parts (readings {F = F} p n ts) (λ ss. Ask.done (r.mid ▸ ss)) rs r.after in
    subst (λ ss. ReadingsAre E (t ▸ ts) ss) (ended _ rs q.after)
    (ReadingsAre.and_read (reading r.mid r.first) (readings-found {F = F} E p n ts q.mid q.first))
  where
    reading : (s : Term) → Ends E (reading_of {F = F} p n t) (Ending.ok s) → ReadingIs E t s
    reading s (Ends.has_reading {r = h} i y) = subst (λ g. ReadingIs E t g) (ended h s y) i

readings-asked : {F P : Type 0} (E : Env) (p : P) (n : ℕ) (ts rs : Terms) → ReadingsAre E ts rs →
    Ends E (readings {F = F} p n ts) (Ending.ok rs)
readings-asked E p n ts rs ReadingsAre.none_read = Ends.is_done
readings-asked {F} E p n _ _ (ReadingsAre.and_read {t} {r} {ts} {rs} a b) =
    and_then (reading_of {F = F} p n t) (λ s. readings p n ts >>= λ ss. Ask.done (s ▸ ss))
    (Ends.has_reading a Ends.is_done)
    (and_then (readings {F = F} p n ts) (λ ss. Ask.done (r ▸ ss)) (readings-asked {F = F} E p n ts rs b) Ends.is_done)

-- ---- problems
-- what the answer says of a deletion
data Asked (E : Env) (f : GlobalId) (S : Scrutinee) : Option Deletion → Type 0 where
  deletes : (w : IsDeletion E f S) → Asked E f S (Some (record { type = w.type; point = w.point }))
  none : IsNoDeletion E f S → Asked E f S None

none-found : (E : Env) (f : GlobalId) (S : Scrutinee) (d : Option Deletion) →
    ((A s i : Term) → IsProof f S A s i → ⊥) → None ≡ d → Asked E f S d
none-found E f S d nothing e = subst (λ o. Asked E f S o) e (Asked.none (IsNoDeletion.no_proof nothing))

-- what is asked of a deletion, by the shapes of parameters and indices
proof-is : (f : GlobalId) (S : Scrutinee) (A s i : Term) (ps is : Terms) → S.params ≡ ps → S.indices ≡ is →
    IsProof f S A s i → (ps ≡ A ▸ s ▸ ε) × (is ≡ i ▸ ε)
proof-is f S A s i ps is e h r = (sym e ∙ r.params, sym h ∙ r.indices)

points-found : {F P : Type 0} (E : Env) (p : P) (n : ℕ) (f : GlobalId) (S : Scrutinee) (ps is : Terms)
    (d : Option Deletion) → f ≡ eq_id → S.params ≡ ps → S.indices ≡ is →
    Ends E (of_points {F = F} p n ps is) (Ending.ok d) → Asked E f S d
points-found E p n f S (A ▸ s ▸ ε) (i ▸ ε) d g e h (Ends.are_equal x y) =
    subst (λ o. Asked E f S o) (ended _ d y) (Asked.deletes (record {
      type = A;
      point = s;
      index = i;
      proof = record { family = g; params = e; indices = h };
      same = x;
    }))
points-found E p n f S (A ▸ s ▸ ε) (i ▸ ε) d g e h (Ends.are_different x y) =
    subst (λ o. Asked E f S o) (ended _ d y)
    (Asked.none (IsNoDeletion.apart (record { family = g; params = e; indices = h }) x))
points-found E p n f S ε is d g e h x =
    none-found E f S d (λ A s i r. cc ((proof-is f S A s i ε is e h r).0)) (ended _ d x)
points-found E p n f S (A ▸ ε) is d g e h x =
    none-found E f S d (λ B s i r. cc ((proof-is f S B s i (A ▸ ε) is e h r).0)) (ended _ d x)
points-found E p n f S (A ▸ s ▸ t ▸ ps) is d g e h x =
    none-found E f S d (λ B r i q. cc ((proof-is f S B r i (A ▸ s ▸ t ▸ ps) is e h q).0)) (ended _ d x)
points-found E p n f S (A ▸ s ▸ ε) ε d g e h x =
    none-found E f S d (λ B r i q. cc ((proof-is f S B r i (A ▸ s ▸ ε) ε e h q).1)) (ended _ d x)
points-found E p n f S (A ▸ s ▸ ε) (i ▸ j ▸ is) d g e h x =
    none-found E f S d (λ B r k q. cc ((proof-is f S B r k (A ▸ s ▸ ε) (i ▸ j ▸ is) e h q).1)) (ended _ d x)

deletion-found : {F P : Type 0} (E : Env) (p : P) (f : GlobalId) (S : Scrutinee) (d : Option Deletion) →
    Ends E (deletion {F = F} p f S) (Ending.ok d) → Asked E f S d
unfolding deletion
deletion-found {F} E p f S d x = by_test (same_id f eq_id) refl x
  where
    by_test : (b : Bool) → same_id f eq_id ≡ b →
        Ends E (cond b (of_points {F = F} p (length S.context) S.params S.indices) (Ask.done None)) (Ending.ok d) →
        Asked E f S d
    by_test true e y =
        points-found {F = F} E p (length S.context) f S S.params S.indices d (same_id-is f eq_id e) refl refl y
    by_test false e y = none-found E f S d (λ A s i r. not-same r.family) (ended _ d y)
      where
        not-same : f ≡ eq_id → ⊥
        not-same g = let t : same_id f eq_id ≡ true = subst (λ h. same_id f h ≡ true) g (id-same f) in
            let k : true ≡ false = sym t ∙ e in cc k

stuck-found : {F P : Type 0} (E : Env) (p : P) (Q : Problem) (ts : Terms) (n : ℕ) (u t : Term) (a : Solved) →
    ReadingsAre E Q.indices ts → HasVerdict E (scrutinee Q ts) 0 Q.results (Verdict.stuck n u t) →
    Ends E (solved_by {F = F} p Q.family (scrutinee Q ts) (Verdict.stuck n u t)) (Ending.ok a) → Unifies E Q a
stuck-found {F} E p Q ts n u t a r v x =
    let q = parts (deletion {F = F} p Q.family (scrutinee Q ts)) (λ d. Ask.done (or_deletion u t d)) a x in
    subst (λ b. Unifies E Q b) (ended _ a q.after)
    (by_asked q.mid (deletion-found {F = F} E p Q.family (scrutinee Q ts) q.mid q.first))
  where
    by_asked : (d : Option Deletion) → Asked E Q.family (scrutinee Q ts) d → Unifies E Q (or_deletion u t d)
    by_asked d (Asked.deletes w) = Unifies.is_deleted r v w
    by_asked d (Asked.none w) = Unifies.stays_stuck r v w

by_verdict-found : {F P : Type 0} (E : Env) (p : P) (Q : Problem) (ts : Terms) (v : Verdict) (a : Solved) →
    ReadingsAre E Q.indices ts → HasVerdict E (scrutinee Q ts) 0 Q.results v →
    Ends E (solved_by {F = F} p Q.family (scrutinee Q ts) v) (Ending.ok a) → Unifies E Q a
by_verdict-found E p Q ts (Verdict.solved ss) a r v x =
    subst (λ b. Unifies E Q b) (ended _ a x) (Unifies.is_solved r v)
by_verdict-found E p Q ts Verdict.clash a r v x = subst (λ b. Unifies E Q b) (ended _ a x) (Unifies.is_clash r v)
by_verdict-found {F} E p Q ts (Verdict.stuck n u t) a r v x = stuck-found {F = F} E p Q ts n u t a r v x

solve-found : {F P : Type 0} (E : Env) (p : P) (Q : Problem) (a : Solved) →
    Ends E (solve {F = F} E p Q) (Ending.ok a) → Unifies E Q a
unfolding solve
solve-found {F} E p Q a x =
    let r = parts (readings {F = F} p (length Q.context) Q.indices)
    (λ ts. constructor_verdict E p (scrutinee Q ts) 0 Q.results >>= λ v. solved_by p Q.family (scrutinee Q ts) v) a
    x in
    let q = parts (constructor_verdict {F = F} E p (scrutinee Q r.mid) 0 Q.results)
    (λ v. solved_by p Q.family (scrutinee Q r.mid) v) a r.after in
    by_verdict-found {F = F} E p Q r.mid q.mid a
    (readings-found {F = F} E p (length Q.context) Q.indices r.mid r.first)
    (verdict-found {F = F} E p (scrutinee Q r.mid) 0 Q.results q.mid q.first) q.after

solve-on : {F P : Type 0} (E : Env) (p : P) (Q : Problem) (ts : Terms) (v : Verdict) (a : Solved) →
    ReadingsAre E Q.indices ts → HasVerdict E (scrutinee Q ts) 0 Q.results v →
    Ends E (solved_by {F = F} p Q.family (scrutinee Q ts) v) (Ending.ok a) →
    Ends E (solve {F = F} E p Q) (Ending.ok a)
unfolding solve
solve-on {F} E p Q ts v a r w x =
    and_then (readings {F = F} p (length Q.context) Q.indices)
    (λ ss. constructor_verdict E p (scrutinee Q ss) 0 Q.results >>= λ u. solved_by p Q.family (scrutinee Q ss) u)
    (readings-asked {F = F} E p (length Q.context) Q.indices ts r)
    (and_then (constructor_verdict {F = F} E p (scrutinee Q ts) 0 Q.results)
    (λ u. solved_by p Q.family (scrutinee Q ts) u)
    (verdict-asked {F = F} E p (scrutinee Q ts) 0 Q.results v w) x)

stuck-on : {F P : Type 0} (E : Env) (p : P) (f : GlobalId) (S : Scrutinee) (n : ℕ) (u t : Term)
    (d : Option Deletion) → Ends E (deletion {F = F} p f S) (Ending.ok d) →
    Ends E (solved_by {F = F} p f S (Verdict.stuck n u t)) (Ending.ok (or_deletion u t d))
stuck-on {F} E p f S n u t d x =
    and_then (deletion {F = F} p f S) (λ y. Ask.done (or_deletion u t y)) x Ends.is_done

of_proof : {F P : Type 0} (E : Env) (p : P) (f : GlobalId) (S : Scrutinee) (A s i : Term) (d : Option Deletion) →
    IsProof f S A s i → Ends E (of_points {F = F} p (length S.context) (A ▸ s ▸ ε) (i ▸ ε)) (Ending.ok d) →
    Ends E (deletion {F = F} p f S) (Ending.ok d)
unfolding deletion
of_proof {F} E p f S A s i d r x =
    let test : same_id f eq_id ≡ true = subst (λ g. same_id f g ≡ true) r.family (id-same f) in
    subst (λ b. Ends E (cond b (of_points {F = F} p (length S.context) S.params S.indices) (Ask.done None))
    (Ending.ok d))
    (sym test)
    (subst (λ ps. Ends E (of_points {F = F} p (length S.context) ps S.indices) (Ending.ok d)) (sym r.params)
    (subst (λ is. Ends E (of_points {F = F} p (length S.context) (A ▸ s ▸ ε) is) (Ending.ok d)) (sym r.indices) x))

no_points : {F P : Type 0} (E : Env) (p : P) (n : ℕ) (ps is : Terms) →
    ((A s i : Term) → ps ≡ A ▸ s ▸ ε → is ≡ i ▸ ε → ⊥) → Ends E (of_points {F = F} p n ps is) (Ending.ok None)
no_points E p n (A ▸ s ▸ ε) (i ▸ ε) nothing = absurd (nothing A s i refl refl)
no_points E p n ε is nothing = Ends.is_done
no_points E p n (A ▸ ε) is nothing = Ends.is_done
no_points E p n (A ▸ s ▸ t ▸ ps) is nothing = Ends.is_done
no_points E p n (A ▸ s ▸ ε) ε nothing = Ends.is_done
no_points E p n (A ▸ s ▸ ε) (i ▸ j ▸ is) nothing = Ends.is_done

of_none : {F P : Type 0} (E : Env) (p : P) (f : GlobalId) (S : Scrutinee) →
    ((A s i : Term) → IsProof f S A s i → ⊥) → Ends E (deletion {F = F} p f S) (Ending.ok None)
unfolding deletion
of_none {F} E p f S nothing = by_test (same_id f eq_id) refl
  where
    by_test : (b : Bool) → same_id f eq_id ≡ b →
        Ends E (cond b (of_points {F = F} p (length S.context) S.params S.indices) (Ask.done None)) (Ending.ok None)
    by_test true e =
        no_points {F = F} E p (length S.context) S.params S.indices
        (λ A s i g h. nothing A s i (record { family = same_id-is f eq_id e; params = g; indices = h }))
    by_test false e = Ends.is_done

no_deletion : {F P : Type 0} (E : Env) (p : P) (f : GlobalId) (S : Scrutinee) → IsNoDeletion E f S →
    Ends E (deletion {F = F} p f S) (Ending.ok None)
no_deletion {F} E p f S (IsNoDeletion.no_proof nothing) = of_none {F = F} E p f S nothing
no_deletion {F} E p f S (IsNoDeletion.apart {A} {s} {i} r d) =
    of_proof {F = F} E p f S A s i None r (Ends.are_different d Ends.is_done)

is_deletion : {F P : Type 0} (E : Env) (p : P) (f : GlobalId) (S : Scrutinee) (w : IsDeletion E f S) →
    Ends E (deletion {F = F} p f S) (Ending.ok (Some (record { type = w.type; point = w.point })))
is_deletion {F} E p f S w =
    of_proof {F = F} E p f S w.type w.point w.index (Some (record { type = w.type; point = w.point })) w.proof
    (Ends.are_equal w.same Ends.is_done)

solve-asked : {F P : Type 0} (E : Env) (p : P) (Q : Problem) (a : Solved) → Unifies E Q a →
    Ends E (solve {F = F} E p Q) (Ending.ok a)
solve-asked {F} E p Q a (Unifies.is_solved {ts} {ss} r v) =
    solve-on {F = F} E p Q ts (Verdict.solved ss) (Solved.solution_is ss) r v Ends.is_done
solve-asked {F} E p Q a (Unifies.is_clash {ts} r v) =
    solve-on {F = F} E p Q ts Verdict.clash Solved.clash_is r v Ends.is_done
solve-asked {F} E p Q a (Unifies.is_deleted {ts} {n} {u} {t} r v w) =
    solve-on {F = F} E p Q ts (Verdict.stuck n u t) Solved.deletion_is r v
    (stuck-on {F = F} E p Q.family (scrutinee Q ts) n u t (Some (record { type = w.type; point = w.point }))
    (is_deletion {F = F} E p Q.family (scrutinee Q ts) w))
solve-asked {F} E p Q a (Unifies.stays_stuck {ts} {n} {u} {t} r v w) =
    solve-on {F = F} E p Q ts (Verdict.stuck n u t) (Solved.stuck_is u t) r v
    (stuck-on {F = F} E p Q.family (scrutinee Q ts) n u t None (no_deletion {F = F} E p Q.family (scrutinee Q ts) w))

-- ---- nothing fails
against-keeps : {F P : Type 0} (f : GlobalId) (c : ℕ) (o : Option Made) (otherwise : Ask F P (List Found))
    (fields : Terms → Ask F P (List Found)) → NoFailure otherwise → ((us : Terms) → NoFailure (fields us)) →
    NoFailure (against f c o otherwise fields)
against-keeps f c None otherwise fields x y = x
against-keeps f c (Some (Made.made g d us)) otherwise fields x y = by_test (same_id f g && eqb c d)
  where
    by_test : (b : Bool) → NoFailure (cond b (fields us) (Ask.done (Found.clashes ∷ [])))
    by_test true = y us
    by_test false = tt

mutual
  equation-keeps : (F : Type 0) {P : Type 0} (p : P) (n m : ℕ) (t u : Term) → NoFailure (equation {F = F} p n m t u)
  equation-keeps F p n m (var i) u = tt
  equation-keeps F p n m (node (Form.con f c k) ts) u =
      λ h. against-keeps f c (as_con h) (stuck_at {F = F} m (node (Form.con f c k) ts) u)
      (λ us. equations p n m ts us k) tt (λ us. equations-keep F p n m ts us k)
  equation-keeps F p n m (node G ts) u = tt

  equations-keep : (F : Type 0) {P : Type 0} (p : P) (n m : ℕ) (ts us : Terms) (k : ℕ) →
      NoFailure (equations {F = F} p n m ts us k)
  equations-keep F p n m ε us zero = tt
  equations-keep F p n m ε us (suc k) = tt
  equations-keep F p n m (t ▸ ts) us (suc k) = equations-keep F p n m ts us k
  equations-keep F p n m (t ▸ ts) ε zero = tt
  equations-keep F p n m (t ▸ ts) (u ▸ us) zero =
      no_failure-then (equation {F = F} p n m t u) _ (equation-keeps F p n m t u)
      (λ xs. no_failure-then (equations {F = F} p n m ts us zero) (λ ys. Ask.done (xs ++ ys))
      (equations-keep F p n m ts us zero) (λ ys. tt))

verdict-keeps : (F : Type 0) {P : Type 0} (E : Env) (p : P) (S : Scrutinee) (m : ℕ) (results : Terms) →
    NoFailure (constructor_verdict {F = F} E p S m results)
unfolding constructor_verdict
verdict-keeps F E p S m results = by_pair (unsolvable E S S.targets S.indices results)
  where
    by_pair : (o : Option (Term × Term)) → NoFailure (or_equations {F = F} p S m results o)
    by_pair (Some e) = tt
    by_pair None =
        no_failure-then (equations {F = F} p (length S.context) m S.targets results zero)
        (λ xs. Ask.done (verdict (length S.context + m) xs))
        (equations-keep F p (length S.context) m S.targets results zero) (λ xs. tt)

readings-keep : (F : Type 0) {P : Type 0} (p : P) (n : ℕ) (ts : Terms) → NoFailure (readings {F = F} p n ts)
readings-keep F p n ε = tt
readings-keep F p n (t ▸ ts) =
    no_failure-then (reading_of {F = F} p n t) _ (λ h. tt)
    (λ r. no_failure-then (readings {F = F} p n ts) (λ rs. Ask.done (r ▸ rs)) (readings-keep F p n ts) (λ rs. tt))

points-keep : (F : Type 0) {P : Type 0} (p : P) (n : ℕ) (ps is : Terms) → NoFailure (of_points {F = F} p n ps is)
points-keep F p n (A ▸ s ▸ ε) (i ▸ ε) = (tt, tt)
points-keep F p n ε is = tt
points-keep F p n (A ▸ ε) is = tt
points-keep F p n (A ▸ s ▸ t ▸ ps) is = tt
points-keep F p n (A ▸ s ▸ ε) ε = tt
points-keep F p n (A ▸ s ▸ ε) (i ▸ j ▸ is) = tt

deletion-keeps : (F : Type 0) {P : Type 0} (p : P) (f : GlobalId) (S : Scrutinee) → NoFailure (deletion {F = F} p f S)
unfolding deletion
deletion-keeps F p f S = by_test (same_id f eq_id)
  where
    by_test : (b : Bool) →
        NoFailure (cond b (of_points {F = F} p (length S.context) S.params S.indices) (Ask.done None))
    by_test true = points-keep F p (length S.context) S.params S.indices
    by_test false = tt

by_verdict-keeps : (F : Type 0) {P : Type 0} (p : P) (f : GlobalId) (S : Scrutinee) (v : Verdict) →
    NoFailure (solved_by {F = F} p f S v)
by_verdict-keeps F p f S (Verdict.solved ss) = tt
by_verdict-keeps F p f S Verdict.clash = tt
by_verdict-keeps F p f S (Verdict.stuck n u t) =
    no_failure-then (deletion {F = F} p f S) (λ d. Ask.done (or_deletion u t d)) (deletion-keeps F p f S)
    (λ d. tt)

solve-keeps : (F : Type 0) {P : Type 0} (E : Env) (p : P) (Q : Problem) → NoFailure (solve {F = F} E p Q)
unfolding solve
solve-keeps F E p Q =
    no_failure-then (readings {F = F} p (length Q.context) Q.indices) _
    (readings-keep F p (length Q.context) Q.indices)
    (λ ts. no_failure-then (constructor_verdict {F = F} E p (scrutinee Q ts) 0 Q.results)
    (λ v. solved_by p Q.family (scrutinee Q ts) v) (verdict-keeps F E p (scrutinee Q ts) 0 Q.results)
    (λ v. by_verdict-keeps F p Q.family (scrutinee Q ts) v))

-- ---- the laws
pub equations_are_the_relation : (F P : Type 0) → EquationsAreTheRelation F P
equations_are_the_relation F P = record {
  problems = λ E p Q a. (λ x. solve-found {F = F} E p Q a x, λ u. solve-asked {F = F} E p Q a u);
  constructors = λ E p S m results v.
      (λ x. verdict-found {F = F} E p S m results v x, λ h. verdict-asked {F = F} E p S m results v h);
  never_fails = λ E p Q f x. never (solve {F = F} E p Q) f (solve-keeps F E p Q) x;
}

abbrev answer_or : {F P A : Type 0} → A → Ending F P A → A
answer_or a (Ending.ok b) = b
answer_or a (Ending.fails f) = a
answer_or a (Ending.spent p q) = a

-- an answer is that of the list, which has one ending
pub one_of_four : (E : Env) → BodiesClosed E → OneOfFour E
one_of_four E bodies Q a b x y =
    ap (answer_or {F = ⊥} {P = Unit {0}} a)
    (one-ending E bodies (solve {F = ⊥} E tt Q) (Ending.ok a) (Ending.ok b) (solve-asked {F = ⊥} E tt Q a x)
    (solve-asked {F = ⊥} E tt Q b y))
