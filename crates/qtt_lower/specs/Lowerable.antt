-- Which flat terms are lowered: those that conversion gives. A closure captures variables, no tape stands
-- anywhere, and what has a value of its own has no components.
use Rattle.std.specs.Prelude.{◌≡◌, ℕ, ◌+◌, ◌<◌, List, Some, slice_get}
use Rattle.qtt_base.specs.declared.place.GlobalId.{GlobalId}
use Rattle.qtt_term.specs.Term.{first, rest}
use Rattle.qtt_erase.specs.Binding.{Tree, Trees, ∅, ◌◂◌, size}
use Rattle.qtt_erase.specs.Operator.{Operator}
use Rattle.qtt_erase.specs.Step.{Bodies}
use Rattle.qtt_closure.specs.Flat as flat
use Rattle.qtt_closure.specs.Flat.{Closure, FlatTerm, FlatTerms, Function}
use Rattle.qtt_code.specs.Instruction.{Program}
use Rattle.qtt_lower.specs.Lowering.{branches, block}

abbrev pub AreVariables : FlatTerms → Type 0
AreVariables ∅ = Unit {0}
AreVariables (Tree.var i ◂ ts) = AreVariables ts
AreVariables (Tree.node F us ◂ ts) = ⊥

abbrev pub IsNone : {O : Type 0} → Trees O → Type 0
IsNone ∅ = Unit {0}
IsNone (t ◂ ts) = ⊥

abbrev pub HasComponents : Operator Closure → FlatTerms → Type 0
HasComponents (Operator.function f) ts = (f.captured ≡ size ts) × AreVariables ts
HasComponents (Operator.def d) ts = IsNone ts
HasComponents (Operator.lit l) ts = IsNone ts
HasComponents Operator.trap ts = IsNone ts
HasComponents Operator.ty ts = IsNone ts
HasComponents (Operator.tape n) ts = ⊥
HasComponents _ ts = Unit {0}

-- of d variables
abbrev mutual
  pub Lowerable : ℕ → FlatTerm → Type 0
  Lowerable d (Tree.var i) = i < d
  Lowerable d (Tree.node F ts) = HasComponents F ts × AllLowerable (branches F) d ts

  pub AllLowerable : List ℕ → ℕ → FlatTerms → Type 0
  AllLowerable ns d ∅ = Unit {0}
  AllLowerable ns d (t ◂ ts) = Lowerable (first ns + d) t × AllLowerable (rest ns) d ts

-- block n is that of a function
abbrev pub IsBlock : (GlobalId → ℕ) → Program → ℕ → Function → Type 0
IsBlock e C n F = (d : GlobalId) × (slice_get C n ≡ Some (block e d F)) × Lowerable (F.captured + F.takes) F.body

-- a program has the block of each function at its number, and that of each definition at its entry
pub record IsLowered (e : GlobalId → ℕ) (P : flat.Program) (D : Bodies Closure) (C : Program) : Type 0 where
  pub functions : (n : ℕ) (F : Function) → P n ≡ Some F → IsBlock e C n F
  pub definitions : (d : GlobalId) (u : FlatTerm) → D d ≡ Some u →
      IsBlock e C (e d) (record { captured = 0; takes = 0; body = u })
