-- Questions of unification, asked at a place.
use Rattle.std.proofs.Common.{◌≡◌, ◌∙◌, ℕ, zero, suc, ◌+◌, Bool, true, false, cond, eqb, ◌&&◌, length, List, [], ◌∷◌, ◌++◌, Option, Some, None, refl, sym, ap}
use Rattle.qtt_base.specs.declared.place.Span.{Span}
use Rattle.qtt_base.specs.declared.place.GlobalId.{GlobalId}
use Rattle.qtt_term.specs.Term.{Form, Term, Terms, var, node, ε, ◌▸◌, same_id}
use Rattle.qtt_term.specs.Signature.{Env, eq_id}
use Rattle.qtt_term.specs.Question as question
use Rattle.qtt_term.specs.Reading as reading
use Rattle.qtt_term.specs.Ask.{Ask, ◌>>=◌, Question, Ending, within, on_head, on_answer}
use Rattle.qtt_term.specs.Contraction.{Made, as_con}
use Rattle.qtt_term.specs.Substitution.{ren, shift}
use Rattle.qtt_term.specs.Premises as premises
use Rattle.qtt_rules.specs.Refusal.{Place, Refusal}
use Rattle.qtt_rules.specs.Asks.{Asks}
use Rattle.qtt_unify.specs.declared.error.UnifyError.{UnifyError}
use Rattle.qtt_unify.specs.declared.error.UnifyError.TheVariants as unify_error
use Rattle.qtt_unify.specs.View as unify
use Rattle.qtt_unify.specs.Targets.{Scrutinee, readings, unsolvable}
use Rattle.qtt_unify.specs.Equations.{Found, against, stuck_at, equation, equations, or_equations, constructor_verdict, verdict, unsolvable_stuck}
use Rattle.qtt_unify.specs.Deletion.{of_points, deletion}
use Rattle.qtt_unify.proofs.Within.{onward, within-then}
use Rattle.qtt_split.specs.declared.planner.Test as code_test
use Rattle.qtt_split.specs.Answers.{Reaches, Refuses}
use Rattle.qtt_split.specs.Calls.{test_of, told_as}
use Rattle.qtt_split.specs.Tests.{at}

-- the same ending, with the place of the question that is spent
abbrev pub placed : Place → {A : Type 0} → Ending ⊥ (Unit {0}) A → Ending Refusal Place A
placed p (Ending.ok a) = Ending.ok a
placed p (Ending.fails f) = absurd f
placed p (Ending.spent u q) = Ending.spent p q

-- the second asks at the place what the first asks
pub record Alike (E : Env) (n : ℕ) (p : Place) {A : Type 0} (m : unify.Asks A) (w : Asks A) : Type 0 where
  pub is : within E n w ≡ placed p (within E n m)

module _ (E : Env) (n : ℕ) (p : Place) where
  alike-done : {A : Type 0} (a : A) → Alike E n p (Ask.done a) (Ask.done a)
  unfolding within
  alike-done a = record { is = refl }

  by_head : {A : Type 0} (H : question.Head) (g : Term → Ending ⊥ (Unit {0}) A) (h : Term → Ending Refusal Place A)
      (q : Question) → ((x : Term) → h x ≡ placed p (g x)) →
      on_head H h (Ending.spent p q) ≡ placed p (on_head H g (Ending.spent tt q))
  unfolding on_head
  by_head (question.Head.done x made) g h q same = same x
  by_head question.Head.spent g h q same = refl

  alike-head : {A : Type 0} (d : ℕ) (t : Term) (g : Term → unify.Asks A) (h : Term → Asks A) →
      ((x : Term) → Alike E n p (g x) (h x)) → Alike E n p (Ask.head tt d t g) (Ask.head p d t h)
  unfolding within
  alike-head d t g h same = record {
    is =
        by_head (question.head E n t) (λ x. within E n (g x)) (λ x. within E n (h x)) (Question.head_of d t)
        (λ x. (same x).is);
  }

  alike-read : {A : Type 0} (d : ℕ) (t : Term) (g : Term → unify.Asks A) (h : Term → Asks A) →
      ((x : Term) → Alike E n p (g x) (h x)) → Alike E n p (Ask.read tt d t g) (Ask.read p d t h)
  unfolding within
  alike-read d t g h same = record {
    is =
        by_head (reading.read E n t) (λ x. within E n (g x)) (λ x. within E n (h x)) (Question.head_of d t)
        (λ x. (same x).is);
  }

  by_answer : {A : Type 0} (a : question.Answer) (m w : Ending ⊥ (Unit {0}) A) (m' w' : Ending Refusal Place A)
      (q : Question) → m' ≡ placed p m → w' ≡ placed p w →
      on_answer a m' w' (Ending.spent p q) ≡ placed p (on_answer a m w (Ending.spent tt q))
  unfolding on_answer
  by_answer question.Answer.equal m w m' w' q d e = d
  by_answer (question.Answer.different path) m w m' w' q d e = e
  by_answer question.Answer.spent m w m' w' q d e = refl

  alike-compare : {A : Type 0} (d : ℕ) (t s : Term) (m w : unify.Asks A) (m' w' : Asks A) → Alike E n p m m' →
      Alike E n p w w' → Alike E n p (Ask.compare tt d t s m w) (Ask.compare p d t s m' w')
  unfolding within
  alike-compare d t s m w m' w' a b = record {
    is =
        by_answer (question.compare E n t s) (within E n m) (within E n w) (within E n m') (within E n w')
        (Question.compared d t s) a.is b.is;
  }

  by_onward : {A B : Type 0} (e : Ending ⊥ (Unit {0}) A) (k : A → Ending ⊥ (Unit {0}) B)
      (l : A → Ending Refusal Place B) → ((a : A) → l a ≡ placed p (k a)) →
      onward (placed p e) l ≡ placed p (onward e k)
  by_onward (Ending.ok a) k l same = same a
  by_onward (Ending.fails f) k l same = absurd f
  by_onward (Ending.spent u q) k l same = refl

  alike-then : {A B : Type 0} (m : unify.Asks A) (w : Asks A) (k : A → unify.Asks B) (l : A → Asks B) →
      Alike E n p m w → ((a : A) → Alike E n p (k a) (l a)) → Alike E n p (m >>= k) (w >>= l)
  alike-then m w k l h same = record {
    is =
        within-then E n w l ∙ ap (λ e. onward e (λ a. within E n (l a))) h.is ∙
        by_onward (within E n m) (λ a. within E n (k a)) (λ a. within E n (l a)) (λ a. (same a).is) ∙
        ap (placed p) (sym (within-then E n m k));
  }

  -- ---- readings
  pub readings-alike : (d : ℕ) (ts : Terms) → Alike E n p (readings tt d ts) (readings p d ts)
  readings-alike d ε = alike-done ε
  readings-alike d (t ▸ ts) =
      alike-then (premises.reading_of tt d t) (premises.reading_of p d t) _ _
      (alike-read d t (λ r. Ask.done r) (λ r. Ask.done r) (λ r. alike-done r))
      (λ r. alike-then (readings tt d ts) (readings p d ts) _ _ (readings-alike d ts) (λ rs. alike-done (r ▸ rs)))

  -- ---- deletion
  points-alike : (d : ℕ) (ps is : Terms) → Alike E n p (of_points tt d ps is) (of_points p d ps is)
  points-alike d (A ▸ s ▸ ε) (i ▸ ε) =
      alike-compare d i s (Ask.done (Some (record { type = A; point = s }))) (Ask.done None)
      (Ask.done (Some (record { type = A; point = s }))) (Ask.done None)
      (alike-done (Some (record { type = A; point = s }))) (alike-done None)
  points-alike d ε is = alike-done None
  points-alike d (A ▸ ε) is = alike-done None
  points-alike d (A ▸ s ▸ B ▸ ps) is = alike-done None
  points-alike d (A ▸ s ▸ ε) ε = alike-done None
  points-alike d (A ▸ s ▸ ε) (i ▸ j ▸ is) = alike-done None

  pub deletion-alike : (f : GlobalId) (S : Scrutinee) → Alike E n p (deletion tt f S) (deletion p f S)
  unfolding deletion
  deletion-alike f S = by_family (same_id f eq_id)
    where
      by_family : (b : Bool) → Alike E n p
          (cond b (of_points tt (length S.context) S.params S.indices) (Ask.done None))
          (cond b (of_points p (length S.context) S.params S.indices) (Ask.done None))
      by_family true = points-alike (length S.context) S.params S.indices
      by_family false = alike-done None

  -- ---- equations
  against-alike : (f : GlobalId) (c : ℕ) (o : Option Made) (m : unify.Asks (List Found)) (w : Asks (List Found))
      (g : Terms → unify.Asks (List Found)) (h : Terms → Asks (List Found)) → Alike E n p m w →
      ((us : Terms) → Alike E n p (g us) (h us)) → Alike E n p (against f c o m g) (against f c o w h)
  against-alike f c None m w g h a b = a
  against-alike f c (Some (Made.made e d us)) m w g h a b = by_place (same_id f e && eqb c d)
    where
      by_place : (x : Bool) →
          Alike E n p (cond x (g us) (Ask.done (Found.clashes ∷ []))) (cond x (h us) (Ask.done (Found.clashes ∷ [])))
      by_place true = b us
      by_place false = alike-done (Found.clashes ∷ [])

  stuck-alike : (m : ℕ) (t u : Term) → Alike E n p (stuck_at m t u) (stuck_at m t u)
  stuck-alike m t u = alike-done (Found.sticks u (ren (shift m) t) ∷ [])

  mutual
    equation-alike : (d m : ℕ) (t u : Term) → Alike E n p (equation tt d m t u) (equation p d m t u)
    equation-alike d m (var i) u = alike-done (Found.solves i u ∷ [])
    equation-alike d m (node (Form.con f c k) ts) u =
        alike-head (d + m) u _ _
        (λ h. against-alike f c (as_con h) (stuck_at m (node (Form.con f c k) ts) u)
        (stuck_at m (node (Form.con f c k) ts) u) (λ us. equations tt d m ts us k) (λ us. equations p d m ts us k)
        (stuck-alike m (node (Form.con f c k) ts) u) (λ us. equations-alike d m ts us k))
    equation-alike d m (node (Form.sort l) ts) u = stuck-alike m (node (Form.sort l) ts) u
    equation-alike d m (node (Form.pi q) ts) u = stuck-alike m (node (Form.pi q) ts) u
    equation-alike d m (node (Form.lam q) ts) u = stuck-alike m (node (Form.lam q) ts) u
    equation-alike d m (node (Form.app q) ts) u = stuck-alike m (node (Form.app q) ts) u
    equation-alike d m (node (Form.fam f) ts) u = stuck-alike m (node (Form.fam f) ts) u
    equation-alike d m (node (Form.case q f k j ns) ts) u = stuck-alike m (node (Form.case q f k j ns) ts) u
    equation-alike d m (node (Form.delete q) ts) u = stuck-alike m (node (Form.delete q) ts) u
    equation-alike d m (node (Form.named x) ts) u = stuck-alike m (node (Form.named x) ts) u
    equation-alike d m (node Form.trap ts) u = stuck-alike m (node Form.trap ts) u
    equation-alike d m (node (Form.tape l) ts) u = stuck-alike m (node (Form.tape l) ts) u

    equations-alike : (d m : ℕ) (ts us : Terms) (k : ℕ) →
        Alike E n p (equations tt d m ts us k) (equations p d m ts us k)
    equations-alike d m (t ▸ ts) us (suc k) = equations-alike d m ts us k
    equations-alike d m (t ▸ ts) (u ▸ us) zero =
        alike-then (equation tt d m t u) (equation p d m t u) _ _ (equation-alike d m t u)
        (λ xs. alike-then (equations tt d m ts us zero) (equations p d m ts us zero) _ _
        (equations-alike d m ts us zero) (λ ys. alike-done (xs ++ ys)))
    equations-alike d m (t ▸ ts) ε zero = alike-done []
    equations-alike d m ε us zero = alike-done []
    equations-alike d m ε us (suc k) = alike-done []

  verdict-by : (S : Scrutinee) (m : ℕ) (results : Terms) (o : Option (Term × Term)) →
      Alike E n p (or_equations tt S m results o) (or_equations p S m results o)
  verdict-by S m results (Some e) = alike-done (unsolvable_stuck (length S.context) m e)
  verdict-by S m results None =
      alike-then (equations tt (length S.context) m S.targets results zero)
      (equations p (length S.context) m S.targets results zero) _ _
      (equations-alike (length S.context) m S.targets results zero)
      (λ xs. alike-done (verdict (length S.context + m) xs))

  pub verdict-alike : (S : Scrutinee) (m : ℕ) (results : Terms) →
      Alike E n p (constructor_verdict E tt S m results) (constructor_verdict E p S m results)
  unfolding constructor_verdict
  verdict-alike S m results = verdict-by S m results (unsolvable E S S.targets S.indices results)

-- ---- calls
pub reaches-placed : (E : Env) (n : ℕ) (p : Place) {A : Type 0} (m : unify.Asks A) (w : Asks A) (a : A) →
    Alike E n p m w → unify.Reaches E n m a → Reaches E n w a
reaches-placed E n p m w a h r = record { is = h.is ∙ ap (placed p) r.is }

pub refuses-placed : (E : Env) (n : ℕ) (s : Span) (x : code_test.Test) {A : Type 0} (m : unify.Asks A) (w : Asks A)
    (e : UnifyError) → Alike E n (at s (test_of x)) m w → unify.Refuses E n m e → Refuses E n w (told_as n s x e)
refuses-placed E n s x m w (unify_error.Spent q) h r = record {
  budget = refl;
  is = h.is ∙ ap (placed (at s (test_of x))) r.is;
}
refuses-placed E n s x m w unify_error.Memory h r = tt
