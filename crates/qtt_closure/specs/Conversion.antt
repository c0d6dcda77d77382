-- Closure conversion. Functions are numbered in preorder, those of a Case's scrutinee before those of its
-- branches. A function captures the variables of its surroundings that it mentions, the outermost first.
use Rattle.std.specs.Prelude.{ℕ, zero, suc, List, [], ◌∷◌, ◌++◌, Bool, false, cond, ◌||◌, eqb}
use Rattle.qtt_term.specs.Term.{first, rest}
use Rattle.qtt_term.specs.Substitution.{shift}
use Rattle.qtt_erase.specs.Binding.{Tree, ∅, ◌◂◌, size}
use Rattle.qtt_erase.specs.Operator.{Operator, waiting_of, Codes}
use Rattle.qtt_erase.specs.Lean.{Abstraction, Lean, Leans, binders, abstractions}
use Rattle.qtt_erase.specs.Erasure.{Slot, Slots, places, place_at}
use Rattle.qtt_closure.specs.Flat.{Closure, FlatTerm, FlatTerms, Function}

-- whether variable i is mentioned
abbrev mutual
  pub mentions : ℕ → Lean → Bool
  mentions i (Tree.var j) = eqb i j
  mentions i (Tree.node F ts) = any_mentions (binders F) i ts

  pub any_mentions : List ℕ → ℕ → Leans → Bool
  any_mentions ns i ∅ = false
  any_mentions ns i (t ◂ ts) = mentions (shift (first ns) i) t || any_mentions (rest ns) i ts

-- ---- numbers: the next free one, where the functions of a term have those from n on
abbrev pub after_own : Operator Abstraction → ℕ → ℕ
after_own (Operator.function a) n = suc n
after_own _ n = n

abbrev mutual
  pub after : ℕ → Lean → ℕ
  after n (Tree.var i) = n
  after n (Tree.node F ts) = afters (after_own F n) ts

  pub afters : ℕ → Leans → ℕ
  afters n ∅ = n
  afters n (t ◂ ts) = afters (after n t) ts

-- the components behind so many
abbrev pub skip : ℕ → Leans → Leans
skip zero ts = ts
skip (suc k) ∅ = ∅
skip (suc k) (t ◂ ts) = skip k ts

abbrev pub waiting : Operator Abstraction → ℕ
waiting = waiting_of abstractions.waiting

-- ---- frames: which of the variables in scope, the newest first, a function's body has
abbrev pub arity : Abstraction → ℕ
arity Abstraction.fun = 1
arity Abstraction.thunk = 0

-- with so many more variables
abbrev pub bound : ℕ → Slots → Slots
bound zero Γ = Γ
bound (suc n) Γ = bound n (Slot.filled ∷ Γ)

-- of the variables in scope from number i on, those that are mentioned
abbrev pub captures : ℕ → Lean → Slots → Slots
captures i t [] = []
captures i t (s ∷ Γ) = cond (mentions i t) Slot.filled Slot.gone ∷ captures (suc i) t Γ

-- those variables, the outermost first, in front of others; place tells where a variable is in the surrounding
-- frame
abbrev pub captured : {A : Type 0} → Slots → (ℕ → ℕ) → Codes A → Codes A
captured [] place vs = vs
captured (Slot.gone ∷ Δ) place vs = captured Δ (λ i. place (suc i)) vs
captured (Slot.blank ∷ Δ) place vs = captured Δ (λ i. place (suc i)) (Tree.var (place 0) ◂ vs)
captured (Slot.filled ∷ Δ) place vs = captured Δ (λ i. place (suc i)) (Tree.var (place 0) ◂ vs)

-- ---- the converted term in a frame, where its functions have the numbers from n on
abbrev pub closure_at : ℕ → FlatTerms → FlatTerm
closure_at n vs = Tree.node (Operator.function (record { number = n; captured = size vs })) vs

-- an operator that is no function
abbrev pub other : Operator Abstraction → Operator Closure
other (Operator.function a) = Operator.ty
other Operator.app = Operator.app
other Operator.force = Operator.force
other (Operator.def d) = Operator.def d
other (Operator.con c) = Operator.con c
other (Operator.case ns) = Operator.case ns
other (Operator.lit l) = Operator.lit l
other (Operator.prim p) = Operator.prim p
other (Operator.act a) = Operator.act a
other Operator.trap = Operator.trap
other Operator.ty = Operator.ty
other (Operator.tape n) = Operator.tape n

-- of a function a closure at its number, else the operator at its converted components
abbrev pub converted : Operator Abstraction → ℕ → Lean → Slots → FlatTerms → FlatTerm
converted (Operator.function a) n t Γ us = closure_at n (captured (captures 0 t Γ) (place_at Γ) ∅)
converted F n t Γ us = Tree.node (other F) us

abbrev mutual
  pub flat : ℕ → Slots → Lean → FlatTerm
  flat n Γ (Tree.var i) = Tree.var (place_at Γ i)
  flat n Γ (Tree.node F ts) =
      converted F n (Tree.node F ts) Γ (flats n (afters n (skip (waiting F) ts)) (waiting F) (binders F) Γ ts)

  -- the first k components have their functions from m on, the others from n on
  pub flats : ℕ → ℕ → ℕ → List ℕ → Slots → Leans → FlatTerms
  flats n m k ns Γ ∅ = ∅
  flats n m zero ns Γ (t ◂ ts) = flat n (bound (first ns) Γ) t ◂ flats (after n t) m zero (rest ns) Γ ts
  flats n m (suc k) ns Γ (t ◂ ts) = flat m (bound (first ns) Γ) t ◂ flats n (after m t) k (rest ns) Γ ts

-- ---- the functions, where the first has number n
-- the frame of the components
abbrev pub frame : Operator Abstraction → Lean → Slots → Slots
frame (Operator.function a) t Γ = captures 0 t Γ
frame F t Γ = Γ

abbrev pub first_or_type : FlatTerms → FlatTerm
first_or_type ∅ = Tree.node Operator.ty ∅
first_or_type (u ◂ us) = u

-- of a function its own entry, whose body is its converted component
abbrev pub own_function : Operator Abstraction → Lean → Slots → FlatTerms → List Function
own_function (Operator.function a) t Γ us =
    record { captured = places (captures 0 t Γ); takes = arity a; body = first_or_type us } ∷ []
own_function F t Γ us = []

abbrev mutual
  pub functions : ℕ → Slots → Lean → List Function
  functions n Γ (Tree.var i) = []
  functions n Γ (Tree.node F ts) =
      own_function F (Tree.node F ts) Γ (flats (suc n) (suc n) (waiting F) (binders F) (frame F (Tree.node F ts) Γ) ts)
      ++ evaluated_functions (after_own F n) (waiting F) (binders F) (frame F (Tree.node F ts) Γ) ts
      ++ waiting_functions (afters (after_own F n) (skip (waiting F) ts)) (waiting F) (binders F)
      (frame F (Tree.node F ts) Γ) ts

  -- those of the components behind the first k
  pub evaluated_functions : ℕ → ℕ → List ℕ → Slots → Leans → List Function
  evaluated_functions n k ns Γ ∅ = []
  evaluated_functions n zero ns Γ (t ◂ ts) =
      functions n (bound (first ns) Γ) t ++ evaluated_functions (after n t) zero (rest ns) Γ ts
  evaluated_functions n (suc k) ns Γ (t ◂ ts) = evaluated_functions n k (rest ns) Γ ts

  -- those of the first k components
  pub waiting_functions : ℕ → ℕ → List ℕ → Slots → Leans → List Function
  waiting_functions n k ns Γ ∅ = []
  waiting_functions n zero ns Γ (t ◂ ts) = []
  waiting_functions n (suc k) ns Γ (t ◂ ts) =
      functions n (bound (first ns) Γ) t ++ waiting_functions (after n t) k (rest ns) Γ ts

-- ---- a whole term's functions from number n on: its own, which captures and takes nothing, and then those in it
abbrev pub conversion : ℕ → Lean → List Function
conversion n t = record { captured = 0; takes = 0; body = flat (suc n) [] t } ∷ functions (suc n) [] t
