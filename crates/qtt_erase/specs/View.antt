-- What the code's erased terms stand for.
use Rattle.std.specs.Prelude.{ℕ, List, [], ◌∷◌, map}
use Rattle.qtt_term.specs.View.{action}
use Rattle.qtt_erase.specs.declared.lean.Lean as code
use Rattle.qtt_erase.specs.declared.lean.Lean.TheOpen.{Lean-F, LeanBranch-F}
use Rattle.qtt_erase.specs.declared.lean.LeanBranch as code_branch
use Rattle.qtt_erase.specs.Binding.{Tree, Trees, ∅, ◌◂◌, ◌◂◂◌}
use Rattle.qtt_erase.specs.Operator.{Operator, App, Force, Def, Con, Literal, Call, Act, Trap, Ty, Tape}
use Rattle.qtt_erase.specs.Lean.{Lean, Fun, Thunk}

-- components side by side
abbrev pub side_by_side : {O : Type 0} → List (Tree O) → Trees O
side_by_side [] = ∅
side_by_side (t ∷ ts) = t ◂ side_by_side ts

-- one level, with each term inside already seen; a branch is seen with the number of its binders
abbrev pub lean_level : Lean-F Lean (ℕ × Lean) → Lean
lean_level (Lean-F.Var i) = Tree.var i
lean_level (Lean-F.Fun b) = Fun b.value
lean_level (Lean-F.Thunk b) = Thunk b.value
lean_level (Lean-F.App f a) = App f.value a.value
lean_level (Lean-F.Force f) = Force f.value
lean_level (Lean-F.Def d) = Def d
lean_level (Lean-F.Con c ts) = Con c (side_by_side ts.items)
lean_level (Lean-F.Case s bs) =
    Tree.node (Operator.case (map (λ b. b.0) bs.items)) (side_by_side (map (λ b. b.1) bs.items) ◂◂ s.value ◂ ∅)
lean_level (Lean-F.Lit l) = Literal l
lean_level (Lean-F.Prim p ts) = Call p (side_by_side ts.items)
lean_level (Lean-F.Act a ts) = Act (action a) (side_by_side ts.items)
lean_level Lean-F.Trap = Trap
lean_level Lean-F.Ty = Ty
lean_level (Lean-F.Tape n) = Tape n

abbrev pub branch_level : LeanBranch-F Lean (ℕ × Lean) → ℕ × Lean
branch_level b = (b.fields, b.body)

-- the erased term that a term of the code stands for
abbrev pub lean : code.Lean → Lean
lean = code.fold-Lean Lean (ℕ × Lean) lean_level branch_level

abbrev pub branch : code_branch.LeanBranch → ℕ × Lean
branch = code_branch.fold-LeanBranch Lean (ℕ × Lean) lean_level branch_level

abbrev pub leans : List code.Lean → List Lean
leans = map lean

abbrev pub lean_branches : List code_branch.LeanBranch → List (ℕ × Lean)
lean_branches = map branch
