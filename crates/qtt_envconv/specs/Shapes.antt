-- What is fixed of a term.
use Rattle.std.specs.Prelude.{◌≡◌, ℕ, ◌+◌, ◌≤◌, map, length, Option, Some, None}
use Rattle.qtt_prims.specs.declared.lit.Lit.{Lit}
use Rattle.qtt_prims.specs.declared.lit.Lit.TheVariants as lit
use Rattle.qtt_term.specs.declared.term.Case.{Case, out-Case}
use Rattle.qtt_term.specs.Term.{PrimTy, Named, Form, Term, var, node}
use Rattle.qtt_term.specs.View.{io, action, branches}
use Rattle.qtt_envconv.specs.declared.literal.Literal.{Literal}
use Rattle.qtt_envconv.specs.declared.literal.Literal.TheVariants as literal_code
use Rattle.qtt_envconv.specs.declared.shape.Shape.{Shape}
use Rattle.qtt_envconv.specs.declared.shape.Shape.TheVariants as shape

abbrev pub literal : Literal → Lit
literal (literal_code.Int n) = lit.Int n
literal (literal_code.Text s) = lit.Text s.now

abbrev pub case_form : Case → Form
case_form c =
    Form.case (out-Case c).mult (out-Case c).family (length (out-Case c).params.items) ((out-Case c).indices + 1)
    (map (λ b. b.0) (branches (out-Case c).branches.items))

abbrev pub form : Shape → Form
form (shape.Sort l) = Form.sort l
form (shape.Pi q) = Form.pi q
form (shape.Lam q) = Form.lam q
form (shape.App q) = Form.app q
form (shape.Family f) = Form.fam f
form (shape.Constructor c k) = Form.con c.family c.place k
form (shape.Case c) = case_form c.now
form (shape.Delete q) = Form.delete q
form (shape.Definition d) = Form.named (Named.def d)
form (shape.Literal l) = Form.named (Named.lit (literal l))
form shape.IntTy = Form.named (Named.prim_ty PrimTy.int)
form shape.StringTy = Form.named (Named.prim_ty PrimTy.string)
form shape.HandleTy = Form.named (Named.prim_ty PrimTy.handle)
form (shape.IoTy m) = Form.named (Named.prim_ty (PrimTy.io_of (io m)))
form (shape.Prim p) = Form.named (Named.prim p)
form (shape.Act a k) = Form.named (Named.act (action a) k)
form shape.Trap = Form.trap
form (shape.Tape n) = Form.tape n

-- a term's shape; a variable has none
abbrev pub HasShape : Term → Option Shape → Type 0
HasShape (var i) o = o ≡ None
HasShape (node F ts) None = ⊥
HasShape (node F ts) (Some s) = form s ≡ F

-- how many components a Case has
abbrev pub case_size : Case → ℕ
case_size c = length (out-Case c).params.items + (length (out-Case c).branches.items + 2)

-- so many components make a term of this shape
abbrev pub fits : Shape → ℕ → Type 0
fits (shape.Pi q) n = n ≡ 2
fits (shape.Lam q) n = n ≡ 2
fits (shape.App q) n = n ≡ 2
fits (shape.Family f) n = Unit {0}
fits (shape.Constructor c k) n = k ≤ n
fits (shape.Case c) n = n ≡ case_size c.now
fits (shape.Delete q) n = n ≡ 5
fits (shape.IoTy m) n = n ≡ 1
fits (shape.Prim p) n = Unit {0}
fits (shape.Act a k) n = k ≤ n
fits shape.Trap n = n ≡ 1
fits _ n = n ≡ 0
