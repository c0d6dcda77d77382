-- No Tape comes from the readings of indices, from their equations, or into a deletion.
use Rattle.std.proofs.Common.{◌≡◌, ℕ, zero, suc, Bool, true, false, ◌&&◌, List, [], ◌∷◌, ◌++◌, length, Option, Some, None, eqb, cond, subst}
use Rattle.std.specs.List.{list_any}
use Rattle.qtt_base.specs.declared.place.GlobalId.{GlobalId}
use Rattle.qtt_term.specs.Term.{Form, Term, Terms, var, node, ε, ◌▸◌, skip, same_id}
use Rattle.qtt_term.specs.Signature.{Env, eq_id}
use Rattle.qtt_term.specs.Contraction.{as_con}
use Rattle.qtt_term.specs.Ask.{Ask, ◌>>=◌, Ending, Ends, ReadingIs}
use Rattle.qtt_term.specs.Environment.{NoTape, NoTapes}
use Rattle.qtt_term.proofs.Options.{none≢some}
use Rattle.qtt_core_check.proofs.Parts.{parts, ended}
use Rattle.qtt_unify.specs.Targets.{Scrutinee, readings}
use Rattle.qtt_unify.specs.Equations.{Found, against, equation, equations, Verdict, is_clash, solution, verdict, or_equations, constructor_verdict}
use Rattle.qtt_unify.specs.Deletion.{Deletion, of_points, deletion}
use Rattle.qtt_clause_laws.proofs.Asked.{reading-reduces}
use Rattle.qtt_accepted.specs.Tapeless.{Tapeless}
use Rattle.qtt_accepted.proofs.Tapes.{skip-clean, head-clean, reduced-clean}
use Rattle.qtt_accepted.proofs.Motives.{SolutionsTapeless}

-- ---- what equations come to
abbrev pub FoundTapeless : Found → Type 0
FoundTapeless (Found.solves i u) = NoTape u
FoundTapeless Found.clashes = Unit {0}
FoundTapeless (Found.sticks u t) = Unit {0}

abbrev pub AllTapeless : List Found → Type 0
AllTapeless [] = Unit {0}
AllTapeless (x ∷ xs) = FoundTapeless x × AllTapeless xs

abbrev pub VerdictTapeless : Verdict → Type 0
VerdictTapeless (Verdict.solved s) = SolutionsTapeless s
VerdictTapeless Verdict.clash = Unit {0}
VerdictTapeless (Verdict.stuck n u t) = Unit {0}

all-joined : (xs ys : List Found) → AllTapeless xs → AllTapeless ys → AllTapeless (xs ++ ys)
all-joined [] ys h k = k
all-joined (x ∷ xs) ys h k = (h.0, all-joined xs ys h.1 k)

solutions-joined : (s r : List (ℕ × Term)) → SolutionsTapeless s → SolutionsTapeless r → SolutionsTapeless (s ++ r)
solutions-joined [] r h k = k
solutions-joined (e ∷ s) r h k = (h.0, solutions-joined s r h.1 k)

solution-clean : (n : ℕ) (xs : List Found) (s : List (ℕ × Term)) → AllTapeless xs → SolutionsTapeless s →
    VerdictTapeless (solution n xs s)
solution-clean n [] s h k = k
solution-clean n (Found.solves i u ∷ xs) s h k =
    solution-clean n xs (s ++ (i, u) ∷ []) h.1 (solutions-joined s ((i, u) ∷ []) k (h.0, tt))
solution-clean n (Found.clashes ∷ xs) s h k = solution-clean n xs s h.1 k
solution-clean n (Found.sticks u t ∷ xs) s h k = tt

verdict-clean : (n : ℕ) (xs : List Found) → AllTapeless xs → VerdictTapeless (verdict n xs)
verdict-clean n xs h = by_test (list_any is_clash xs)
  where
    by_test : (b : Bool) → VerdictTapeless (cond b Verdict.clash (solution n xs []))
    by_test true = tt
    by_test false = solution-clean n xs [] h tt

module _ (E : Env) (clean : Tapeless E) where
  -- ---- equations
  against-clean : {F P : Type 0} (f : GlobalId) (c : ℕ) (h : Term) (other : Ask F P (List Found))
      (fields : Terms → Ask F P (List Found)) → NoTape h →
      ((xs : List Found) → Ends E other (Ending.ok xs) → AllTapeless xs) →
      ((us : Terms) → NoTapes us → (xs : List Found) → Ends E (fields us) (Ending.ok xs) → AllTapeless xs) →
      (xs : List Found) → Ends E (against f c (as_con h) other fields) (Ending.ok xs) → AllTapeless xs
  against-clean {F} {P} f c (node (Form.con g d l) ts) other fields n o k xs x =
      by_test (same_id f g && eqb c d) x
    where
      by_test : (b : Bool) →
          Ends E {F = F} {P = P} (cond b (fields (skip l ts)) (Ask.done (Found.clashes ∷ []))) (Ending.ok xs) →
          AllTapeless xs
      by_test true y = k (skip l ts) (skip-clean l ts n.1) xs y
      by_test false y = subst AllTapeless (ended _ _ y) (tt, tt)
  against-clean f c (var i) other fields n o k xs x = o xs x
  against-clean f c (node (Form.sort l) ts) other fields n o k xs x = o xs x
  against-clean f c (node (Form.pi q) ts) other fields n o k xs x = o xs x
  against-clean f c (node (Form.lam q) ts) other fields n o k xs x = o xs x
  against-clean f c (node (Form.app q) ts) other fields n o k xs x = o xs x
  against-clean f c (node (Form.fam g) ts) other fields n o k xs x = o xs x
  against-clean f c (node (Form.case q g m l ns) ts) other fields n o k xs x = o xs x
  against-clean f c (node (Form.delete q) ts) other fields n o k xs x = o xs x
  against-clean f c (node (Form.named a) ts) other fields n o k xs x = o xs x
  against-clean f c (node Form.trap ts) other fields n o k xs x = o xs x
  against-clean f c (node (Form.tape a) ts) other fields n o k xs x = o xs x

  mutual
    equation-clean : {F P : Type 0} (p : P) (n m : ℕ) (t u : Term) → NoTape u → (xs : List Found) →
        Ends E (equation {F = F} p n m t u) (Ending.ok xs) → AllTapeless xs
    equation-clean p n m (var i) u h xs x = subst AllTapeless (ended _ _ x) (h, tt)
    equation-clean p n m (node (Form.con f c k) ts) u h xs (Ends.has_head {h = v} i x) =
        against-clean f c v _ _ (head-clean E clean u v i h)
        (λ xs x. subst AllTapeless (ended _ _ x) (tt, tt))
        (λ us g xs x. equations-clean p n m ts us k g xs x) xs x
    equation-clean p n m (node (Form.sort l) ts) u h xs x = subst AllTapeless (ended _ _ x) (tt, tt)
    equation-clean p n m (node (Form.pi q) ts) u h xs x = subst AllTapeless (ended _ _ x) (tt, tt)
    equation-clean p n m (node (Form.lam q) ts) u h xs x = subst AllTapeless (ended _ _ x) (tt, tt)
    equation-clean p n m (node (Form.app q) ts) u h xs x = subst AllTapeless (ended _ _ x) (tt, tt)
    equation-clean p n m (node (Form.fam g) ts) u h xs x = subst AllTapeless (ended _ _ x) (tt, tt)
    equation-clean p n m (node (Form.case q g l k ns) ts) u h xs x = subst AllTapeless (ended _ _ x) (tt, tt)
    equation-clean p n m (node (Form.delete q) ts) u h xs x = subst AllTapeless (ended _ _ x) (tt, tt)
    equation-clean p n m (node (Form.named a) ts) u h xs x = subst AllTapeless (ended _ _ x) (tt, tt)
    equation-clean p n m (node Form.trap ts) u h xs x = subst AllTapeless (ended _ _ x) (tt, tt)
    equation-clean p n m (node (Form.tape a) ts) u h xs x = subst AllTapeless (ended _ _ x) (tt, tt)

    equations-clean : {F P : Type 0} (p : P) (n m : ℕ) (ts us : Terms) (k : ℕ) → NoTapes us → (xs : List Found) →
        Ends E (equations {F = F} p n m ts us k) (Ending.ok xs) → AllTapeless xs
    equations-clean p n m ε us k h xs x = subst AllTapeless (ended _ _ x) tt
    equations-clean p n m (t ▸ ts) us (suc k) h xs x = equations-clean p n m ts us k h xs x
    equations-clean p n m (t ▸ ts) ε zero h xs x = subst AllTapeless (ended _ _ x) tt
    equations-clean p n m (t ▸ ts) (u ▸ us) zero h xs x =
        let a = parts (equation p n m t u) _ xs x in
        let b = parts (equations p n m ts us zero) _ xs a.after in
        subst AllTapeless (ended _ _ b.after)
        (all-joined a.mid b.mid (equation-clean p n m t u h.0 a.mid a.first)
        (equations-clean p n m ts us zero h.1 b.mid b.first))

  or-clean : {F P : Type 0} (p : P) (S : Scrutinee) (m : ℕ) (us : Terms) (o : Option (Term × Term)) → NoTapes us →
      (v : Verdict) → Ends E (or_equations {F = F} p S m us o) (Ending.ok v) → VerdictTapeless v
  or-clean p S m us (Some e) h v x = subst VerdictTapeless (ended _ _ x) tt
  or-clean p S m us None h v x =
      let a = parts (equations p (length S.context) m S.targets us zero) _ v x in
      subst VerdictTapeless (ended _ _ a.after)
      (verdict-clean _ a.mid (equations-clean p (length S.context) m S.targets us zero h a.mid a.first))

  pub constructor-clean : {F P : Type 0} (D : Env) (p : P) (S : Scrutinee) (m : ℕ) (us : Terms) → NoTapes us →
      (v : Verdict) → Ends E (constructor_verdict {F = F} D p S m us) (Ending.ok v) → VerdictTapeless v
  unfolding constructor_verdict
  constructor-clean D p S m us h v x = or-clean p S m us _ h v x

  -- ---- readings
  reading-clean : {t r : Term} → ReadingIs E t r → NoTape t → NoTape r
  reading-clean x h = reduced-clean E clean (reading-reduces x) h

  pub readings-clean : {F P : Type 0} (p : P) (n : ℕ) (ts rs : Terms) → NoTapes ts →
      Ends E (readings {F = F} p n ts) (Ending.ok rs) → NoTapes rs
  unfolding ◌>>=◌
  readings-clean p n ε rs h x = subst NoTapes (ended _ _ x) tt
  readings-clean p n (t ▸ ts) rs h (Ends.has_reading {r = r} i x) =
      let a = parts (readings p n ts) _ rs x in
      subst NoTapes (ended _ _ a.after) (reading-clean i h.0, readings-clean p n ts a.mid h.1 a.first)

-- ---- deletions
pub record DeletionTapeless (d : Deletion) : Type 0 where
  pub type : NoTape d.type
  pub point : NoTape d.point

points-clean : {E : Env} {F P : Type 0} (p : P) (n : ℕ) (ps is : Terms) → NoTapes ps → (d : Deletion) →
    Ends E (of_points {F = F} p n ps is) (Ending.ok (Some d)) → DeletionTapeless d
points-clean p n (A ▸ s ▸ ε) (i ▸ ε) h d (Ends.are_equal e x) =
    let q : Some (record { type = A; point = s }) ≡ Some d = ended _ _ x in
    let r : record { type = A; point = s } ≡ d = cc q in
    subst DeletionTapeless r (record { type = h.0; point = h.1.0 })
points-clean p n (A ▸ s ▸ ε) (i ▸ ε) h d (Ends.are_different e x) = absurd (none≢some (ended _ _ x))
points-clean p n ε is h d x = absurd (none≢some (ended _ _ x))
points-clean p n (A ▸ ε) is h d x = absurd (none≢some (ended _ _ x))
points-clean p n (A ▸ s ▸ t ▸ ts) is h d x = absurd (none≢some (ended _ _ x))
points-clean p n (A ▸ s ▸ ε) ε h d x = absurd (none≢some (ended _ _ x))
points-clean p n (A ▸ s ▸ ε) (i ▸ j ▸ is) h d x = absurd (none≢some (ended _ _ x))

pub deletion-clean : {E : Env} {F P : Type 0} (p : P) (f : GlobalId) (S : Scrutinee) → NoTapes S.params →
    (d : Deletion) → Ends E (deletion {F = F} p f S) (Ending.ok (Some d)) → DeletionTapeless d
unfolding deletion
deletion-clean {E} {F} {P} p f S h d x = by_test (same_id f eq_id) x
  where
    by_test : (b : Bool) →
        Ends E (cond b (of_points {F = F} p (length S.context) S.params S.indices) (Ask.done None))
        (Ending.ok (Some d)) → DeletionTapeless d
    by_test true y = points-clean p (length S.context) S.params S.indices h d y
    by_test false y = absurd (none≢some (ended _ _ y))
