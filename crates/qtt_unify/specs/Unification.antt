-- Index equations as a relation: the least one by solution, injectivity and conflict. Heads, readings and conversion
-- are without a bound.
use Rattle.std.specs.Prelude.{◌≡◌, ℕ, ◌+◌, ◌&&◌, false, eqb, List, [], ◌∷◌, ◌++◌, map, length, Some, None}
use Rattle.qtt_base.specs.declared.place.GlobalId.{GlobalId}
use Rattle.qtt_term.specs.Term.{Form, Term, Terms, var, node, ε, ◌▸◌, skip, same_id}
use Rattle.qtt_term.specs.Substitution.{ren, shift}
use Rattle.qtt_term.specs.Signature.{Env, eq_id}
use Rattle.qtt_term.specs.Contraction.{Made, as_con, Conv}
use Rattle.qtt_term.specs.Ask.{HeadIs, ReadingIs, Differ}
use Rattle.qtt_unify.specs.Targets.{Scrutinee, unsolvable}
use Rattle.qtt_unify.specs.Equations.{Found, Verdict, unsolvable_stuck}
use Rattle.qtt_unify.specs.Problems.{Problem, Solved, scrutinee}

-- ---- a target against a result index, which stands under m fields more, and what is found
mutual
  pub data Equation (E : Env) (m : ℕ) : Term → Term → List Found → Type 0 where
    solution : {i : ℕ} {u : Term} → Equation E m (var i) u (Found.solves i u ∷ [])
    -- the same constructor: its fields have equations of their own
    injectivity : {f : GlobalId} {c k : ℕ} {ts us : Terms} {u h : Term} {xs : List Found} →
        HeadIs E u h → as_con h ≡ Some (Made.made f c us) → Equations E m (skip k ts) us xs →
        Equation E m (node (Form.con f c k) ts) u xs
    -- two different constructors
    conflict : {f g : GlobalId} {c d k : ℕ} {ts us : Terms} {u h : Term} →
        HeadIs E u h → as_con h ≡ Some (Made.made g d us) → (same_id f g && eqb c d) ≡ false →
        Equation E m (node (Form.con f c k) ts) u (Found.clashes ∷ [])
    -- what no rule is for is stuck
    no_constructor : {f : GlobalId} {c k : ℕ} {ts : Terms} {u h : Term} → HeadIs E u h → as_con h ≡ None →
        Equation E m (node (Form.con f c k) ts) u
        (Found.sticks u (ren (shift m) (node (Form.con f c k) ts)) ∷ [])
    other_target : {F : Form} {ts : Terms} {u : Term} → as_con (node F ts) ≡ None →
        Equation E m (node F ts) u (Found.sticks u (ren (shift m) (node F ts)) ∷ [])

  -- one beside another; what has nothing beside it is no equation
  pub data Equations (E : Env) (m : ℕ) : Terms → Terms → List Found → Type 0 where
    no_target : {us : Terms} → Equations E m ε us []
    no_result : {t : Term} {ts : Terms} → Equations E m (t ▸ ts) ε []
    and_more : {t u : Term} {ts us : Terms} {xs ys : List Found} → Equation E m t u xs → Equations E m ts us ys →
        Equations E m (t ▸ ts) (u ▸ us) (xs ++ ys)

-- ---- what all equations come to
pub data HasClash : List Found → Type 0 where
  clash_here : {xs : List Found} → HasClash (Found.clashes ∷ xs)
  clash_behind : {x : Found} {xs : List Found} → HasClash xs → HasClash (x ∷ xs)

abbrev pub as_found : ℕ × Term → Found
as_found e = Found.solves e.0 e.1

-- each solves a variable; or one clashes; or else the first that is stuck, in a context of n variables
pub data Concludes (n : ℕ) (xs : List Found) : Verdict → Type 0 where
  all_solve : (ss : List (ℕ × Term)) → xs ≡ map as_found ss → Concludes n xs (Verdict.solved ss)
  one_clashes : HasClash xs → Concludes n xs Verdict.clash
  first_stuck : (ss : List (ℕ × Term)) (ys : List Found) {u t : Term} → (HasClash xs → ⊥) →
      xs ≡ map as_found ss ++ Found.sticks u t ∷ ys → Concludes n xs (Verdict.stuck n u t)

-- ---- a constructor with m fields and these result indices
pub data HasVerdict (E : Env) (S : Scrutinee) (m : ℕ) (results : Terms) : Verdict → Type 0 where
  not_solvable : {e : Term × Term} → unsolvable E S S.targets S.indices results ≡ Some e →
      HasVerdict E S m results (unsolvable_stuck (length S.context) m e)
  by_equations : {xs : List Found} {v : Verdict} → unsolvable E S S.targets S.indices results ≡ None →
      Equations E m S.targets results xs → Concludes (length S.context + m) xs v → HasVerdict E S m results v

-- ---- a problem
pub data ReadingsAre (E : Env) : Terms → Terms → Type 0 where
  none_read : ReadingsAre E ε ε
  and_read : {t r : Term} {ts rs : Terms} → ReadingIs E t r → ReadingsAre E ts rs → ReadingsAre E (t ▸ ts) (r ▸ rs)

-- a proof of Eq of Prim at this type and point, whose index is this
pub record IsProof (f : GlobalId) (S : Scrutinee) (A s i : Term) : Type 0 where
  pub family : f ≡ eq_id
  pub params : S.params ≡ A ▸ s ▸ ε
  pub indices : S.indices ≡ i ▸ ε

-- its index is convertible to its point
pub record IsDeletion (E : Env) (f : GlobalId) (S : Scrutinee) : Type 0 where
  pub type : Term
  pub point : Term
  pub index : Term
  pub proof : IsProof f S type point index
  pub same : Conv E index point

-- it is none, or some comparison of index and point finds a difference
pub data IsNoDeletion (E : Env) (f : GlobalId) (S : Scrutinee) : Type 0 where
  no_proof : ((A s i : Term) → IsProof f S A s i → ⊥) → IsNoDeletion E f S
  apart : {A s i : Term} → IsProof f S A s i → Differ E i s → IsNoDeletion E f S

pub data Unifies (E : Env) (Q : Problem) : Solved → Type 0 where
  is_solved : {ts : Terms} {ss : List (ℕ × Term)} → ReadingsAre E Q.indices ts →
      HasVerdict E (scrutinee Q ts) 0 Q.results (Verdict.solved ss) → Unifies E Q (Solved.solution_is ss)
  is_clash : {ts : Terms} → ReadingsAre E Q.indices ts →
      HasVerdict E (scrutinee Q ts) 0 Q.results Verdict.clash → Unifies E Q Solved.clash_is
  is_deleted : {ts : Terms} {n : ℕ} {u t : Term} → ReadingsAre E Q.indices ts →
      HasVerdict E (scrutinee Q ts) 0 Q.results (Verdict.stuck n u t) → IsDeletion E Q.family (scrutinee Q ts) →
      Unifies E Q Solved.deletion_is
  stays_stuck : {ts : Terms} {n : ℕ} {u t : Term} → ReadingsAre E Q.indices ts →
      HasVerdict E (scrutinee Q ts) 0 Q.results (Verdict.stuck n u t) → IsNoDeletion E Q.family (scrutinee Q ts) →
      Unifies E Q (Solved.stuck_is u t)
