-- What a flat term of a program stands for: the same term, with functions in the place of closures. A closure
-- stands for its function's body with what the captured values stand for in the place of the captured variables.
use Rattle.std.specs.Prelude.{◌≡◌, ℕ, suc, List, [], ◌∷◌, Option, Some, None}
use Rattle.qtt_base.specs.declared.place.GlobalId.{GlobalId}
use Rattle.qtt_erase.specs.Binding.{Tree, ∅, ◌◂◌, size, push, sub, Below}
use Rattle.qtt_erase.specs.Operator.{Operator}
use Rattle.qtt_erase.specs.Step.{Bodies, Outcome}
use Rattle.qtt_erase.specs.Lean.{Abstraction, Lean, Leans, binders}
use Rattle.qtt_closure.specs.Flat.{Closure, FlatTerm, FlatTerms, Function, Program}
use Rattle.qtt_closure.specs.Conversion.{arity, other, flat, functions}

abbrev pub IsOther : Operator Abstraction → Type 0
IsOther (Operator.function a) = ⊥
IsOther _ = Unit {0}

abbrev pub function_of : Abstraction → Lean → Lean
function_of a b = Tree.node (Operator.function a) (b ◂ ∅)

mutual
  pub data StandsFor (P : Program) : Lean → FlatTerm → Type 0 where
    variable : {i : ℕ} → StandsFor P (Tree.var i) (Tree.var i)
    operator : {F : Operator Abstraction} {ts : Leans} {us : FlatTerms} → IsOther F → AllStandFor P ts us →
        StandsFor P (Tree.node F ts) (Tree.node (other F) us)
    -- b is the body under the captured variables, and ls are what these stand for
    closure : {a : Abstraction} {b t : Lean} {ls : Leans} {c : Closure} {F : Function} {vs : FlatTerms} →
        P c.number ≡ Some F →
        c.captured ≡ size ls → F.captured ≡ size ls → F.takes ≡ arity a → StandsFor P b F.body →
        Below binders (size ls) (function_of a b) →
        AllStandFor P ls vs → t ≡ sub binders (push ls Tree.var) (function_of a b) →
        StandsFor P t (Tree.node (Operator.function c) vs)

  pub data AllStandFor (P : Program) : Leans → FlatTerms → Type 0 where
    none : AllStandFor P ∅ ∅
    more : {t : Lean} {ts : Leans} {u : FlatTerm} {us : FlatTerms} → StandsFor P t u → AllStandFor P ts us →
        AllStandFor P (t ◂ ts) (u ◂ us)

-- each function has one component, its body
abbrev pub OneBody : Operator Abstraction → Leans → Type 0
OneBody (Operator.function a) ∅ = ⊥
OneBody (Operator.function a) (b ◂ ∅) = Unit {0}
OneBody (Operator.function a) (b ◂ c ◂ ts) = ⊥
OneBody _ ts = Unit {0}

abbrev mutual
  pub Formed : Lean → Type 0
  Formed (Tree.var i) = Unit {0}
  Formed (Tree.node F ts) = OneBody F ts × AllFormed ts

  pub AllFormed : Leans → Type 0
  AllFormed ∅ = Unit {0}
  AllFormed (t ◂ ts) = Formed t × AllFormed ts

-- these functions have the numbers from n on
abbrev pub Holds : Program → ℕ → List Function → Type 0
Holds P n [] = Unit {0}
Holds P n (F ∷ Fs) = (P n ≡ Some F) × Holds P (suc n) Fs

-- no variable is free in a term, and its functions have the numbers from n on
pub record IsHeld (P : Program) (n : ℕ) (t : Lean) : Type 0 where
  pub formed : Formed t
  pub closed : Below binders 0 t
  pub held : Holds P n (functions n [] t)

-- a definition's converted body, with its functions in the program, where it has an erased body
abbrev pub IsConversion : Program → Option Lean → Option FlatTerm → Type 0
IsConversion P None o = o ≡ None
IsConversion P (Some t) o = (n : ℕ) × (o ≡ Some (flat n [] t)) × IsHeld P n t

abbrev pub AreConversions : Program → Bodies Abstraction → Bodies Closure → Type 0
AreConversions P B D = (d : GlobalId) → IsConversion P (B d) (D d)

-- the same answer, with terms that stand for one another
abbrev pub Agrees : Program → Outcome Lean → Outcome FlatTerm → Type 0
Agrees P Outcome.value o = o ≡ Outcome.value
Agrees P (Outcome.step t) o = (u : FlatTerm) × (o ≡ Outcome.step u) × StandsFor P t u
Agrees P (Outcome.trap k) o = o ≡ Outcome.trap k
Agrees P Outcome.stuck o = o ≡ Outcome.stuck
