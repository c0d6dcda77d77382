-- Index equations: which variables of a split's targets a constructor's result indices solve (Goguen, McBride and
-- McKinna 2006, narrowed: there is no cycle, and deletion at the family Eq of Prim alone), as questions in order.
use Rattle.std.specs.Prelude.{ℕ, zero, suc, ◌+◌, Bool, true, false, ◌&&◌, cond, eqb, List, [], ◌∷◌, ◌++◌, length, Option, Some, None}
use Rattle.std.specs.List.{list_any}
use Rattle.qtt_base.specs.declared.place.GlobalId.{GlobalId}
use Rattle.qtt_term.specs.Term.{Form, Term, Terms, var, node, ◌▸◌, same_id}
use Rattle.qtt_term.specs.Substitution.{ren, shift}
use Rattle.qtt_term.specs.Signature.{Env}
use Rattle.qtt_term.specs.Contraction.{Made, as_con}
use Rattle.qtt_term.specs.Ask.{Ask, ◌>>=◌}
use Rattle.qtt_unify.specs.Targets.{Scrutinee, unsolvable}

-- what one equation comes to: a variable is solved, two constructors are apart, or neither; what is stuck is kept as
-- it stands in its context
pub data Found : Type 0 where
  solves : ℕ → Term → Found
  clashes : Found
  sticks : (result target : Term) → Found

-- of constructor c of family f, and the head of a result index: the fields of the same constructor have equations
-- of their own
abbrev pub against : {F P : Type 0} → GlobalId → ℕ → Option Made → Ask F P (List Found) →
    (Terms → Ask F P (List Found)) → Ask F P (List Found)
against f c None otherwise fields = otherwise
against f c (Some (Made.made g d us)) otherwise fields =
    cond (same_id f g && eqb c d) (fields us) (Ask.done (Found.clashes ∷ []))

-- a target's equation is stuck, m fields deep
abbrev pub stuck_at : {F P : Type 0} → ℕ → Term → Term → Ask F P (List Found)
stuck_at m t u = Ask.done (Found.sticks u (ren (shift m) t) ∷ [])

abbrev mutual
  -- targets stand in a context of n variables, result indices under m fields more
  pub equation : {F P : Type 0} → P → ℕ → ℕ → Term → Term → Ask F P (List Found)
  equation p n m (var i) u = Ask.done (Found.solves i u ∷ [])
  equation p n m (node (Form.con f c k) ts) u =
      Ask.head p (n + m) u (λ h. against f c (as_con h) (stuck_at m (node (Form.con f c k) ts) u)
      (λ us. equations p n m ts us k))
  equation p n m (node F ts) u = stuck_at m (node F ts) u

  -- all are read, left to right, the targets behind so many
  pub equations : {F P : Type 0} → P → ℕ → ℕ → Terms → Terms → ℕ → Ask F P (List Found)
  equations p n m (t ▸ ts) us (suc k) = equations p n m ts us k
  equations p n m (t ▸ ts) (u ▸ us) zero = do
    xs ← equation p n m t u
    ys ← equations p n m ts us zero
    Ask.done (xs ++ ys)
  equations p n m _ us k = Ask.done []

-- ---- a constructor
-- its equations are solved, one clashes, or one is stuck in a context of so many variables
pub data Verdict : Type 0 where
  solved : List (ℕ × Term) → Verdict
  clash : Verdict
  stuck : ℕ → (result target : Term) → Verdict

abbrev pub is_clash : Found → Bool
is_clash Found.clashes = true
is_clash _ = false

-- the solutions, behind s, or the first that is stuck
abbrev pub solution : ℕ → List Found → List (ℕ × Term) → Verdict
solution n [] s = Verdict.solved s
solution n (Found.solves i u ∷ xs) s = solution n xs (s ++ (i, u) ∷ [])
solution n (Found.clashes ∷ xs) s = solution n xs s
solution n (Found.sticks u t ∷ xs) s = Verdict.stuck n u t

-- a constructor clashes where one of its equations clashes, else it is stuck where one is stuck, else it is solved
abbrev pub verdict : ℕ → List Found → Verdict
verdict n xs = cond (list_any is_clash xs) Verdict.clash (solution n xs [])

-- a result index and the index beside it, which stands outside the m fields
abbrev pub unsolvable_stuck : ℕ → ℕ → Term × Term → Verdict
unsolvable_stuck n m e = Verdict.stuck (n + m) e.0 (ren (shift m) e.1)

-- where some target is not solvable, every constructor is stuck
abbrev pub or_equations : {F P : Type 0} → P → Scrutinee → ℕ → Terms → Option (Term × Term) → Ask F P Verdict
or_equations p S m results (Some e) = Ask.done (unsolvable_stuck (length S.context) m e)
or_equations p S m results None = do
  xs ← equations p (length S.context) m S.targets results zero
  Ask.done (verdict (length S.context + m) xs)

-- of a constructor with m fields and these result indices
unfoldable pub constructor_verdict : {F P : Type 0} → Env → P → Scrutinee → ℕ → Terms → Ask F P Verdict
constructor_verdict E p S m results = or_equations p S m results (unsolvable E S S.targets S.indices results)
