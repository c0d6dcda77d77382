-- What the code's flat terms and functions stand for.
use Rattle.std.specs.Prelude.{ℕ, List, map}
use Rattle.qtt_term.specs.View.{action}
use Rattle.qtt_erase.specs.Binding.{Tree, ∅, ◌◂◌, ◌◂◂◌}
use Rattle.qtt_erase.specs.Operator.{Operator, App, Force, Def, Con, Literal, Call, Act, Trap, Ty, Tape}
use Rattle.qtt_erase.specs.View.{side_by_side}
use Rattle.qtt_closure.specs.declared.flat.FlatTerm as code
use Rattle.qtt_closure.specs.declared.flat.FlatTerm.TheOpen.{FlatTerm-F, FlatBranch-F}
use Rattle.qtt_closure.specs.declared.flat.FlatBranch as code_branch
use Rattle.qtt_closure.specs.declared.flat.Function as code_function
use Rattle.qtt_closure.specs.declared.flat.Flat as code_flat
use Rattle.qtt_closure.specs.Flat.{FlatTerm, Function}
use Rattle.qtt_closure.specs.Conversion.{closure_at}

-- one level, with each term inside already seen; a branch is seen with the number of its binders
abbrev pub flat_level : FlatTerm-F FlatTerm (ℕ × FlatTerm) → FlatTerm
flat_level (FlatTerm-F.Var i) = Tree.var i
flat_level (FlatTerm-F.Closure n vs) = closure_at n (side_by_side vs.items)
flat_level (FlatTerm-F.App f a) = App f.value a.value
flat_level (FlatTerm-F.Force f) = Force f.value
flat_level (FlatTerm-F.Def d) = Def d
flat_level (FlatTerm-F.Con c ts) = Con c (side_by_side ts.items)
flat_level (FlatTerm-F.Case s bs) =
    Tree.node (Operator.case (map (λ b. b.0) bs.items)) (side_by_side (map (λ b. b.1) bs.items) ◂◂ s.value ◂ ∅)
flat_level (FlatTerm-F.Lit l) = Literal l
flat_level (FlatTerm-F.Prim p ts) = Call p (side_by_side ts.items)
flat_level (FlatTerm-F.Act a ts) = Act (action a) (side_by_side ts.items)
flat_level FlatTerm-F.Trap = Trap
flat_level FlatTerm-F.Ty = Ty
flat_level (FlatTerm-F.Tape n) = Tape n

abbrev pub branch_level : FlatBranch-F FlatTerm (ℕ × FlatTerm) → ℕ × FlatTerm
branch_level b = (b.fields, b.body)

-- the flat term that a term of the code stands for
abbrev pub flat_term : code.FlatTerm → FlatTerm
flat_term = code.fold-FlatTerm FlatTerm (ℕ × FlatTerm) flat_level branch_level

abbrev pub flat_branch : code_branch.FlatBranch → ℕ × FlatTerm
flat_branch = code_branch.fold-FlatBranch FlatTerm (ℕ × FlatTerm) flat_level branch_level

abbrev pub flat_terms : List code.FlatTerm → List FlatTerm
flat_terms = map flat_term

abbrev pub flat_branches : List code_branch.FlatBranch → List (ℕ × FlatTerm)
flat_branches = map flat_branch

abbrev pub function : code_function.Function → Function
function F = record { captured = F.captured; takes = F.takes; body = flat_term F.body }

abbrev pub function_list : List code_function.Function → List Function
function_list = map function

abbrev pub functions_of : code_flat.Flat → List Function
functions_of f = function_list f.functions.items
