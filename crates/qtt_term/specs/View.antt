-- What the code's terms stand for.
use Rattle.std.specs.Prelude.{ℕ, ◌+◌, List, [], ◌∷◌, map, length}
use Rattle.qtt_prims.specs.declared.prim.ActKind.{ActKind}
use Rattle.qtt_prims.specs.declared.prim.ActKind.TheVariants as act_kind
use Rattle.qtt_term.specs.declared.term.IoKind.{IoKind}
use Rattle.qtt_term.specs.declared.term.IoKind.TheVariants as io_kind
use Rattle.qtt_term.specs.declared.term.Term as code
use Rattle.qtt_term.specs.declared.term.Term.TheOpen.{Term-F, Branch-F, Case-F, Delete-F}
use Rattle.qtt_term.specs.declared.term.Branch as code_branch
use Rattle.qtt_term.specs.declared.term.Case as code_case
use Rattle.qtt_term.specs.declared.term.Delete as code_delete
use Rattle.qtt_term.specs.Term.{Io, PrimTy, Action, Named, Form, Term, Terms, var, node, ε, ◌▸◌, ◌+++◌, Sort, Pi, Lam, App, Fam, Delete, Def, TypeOf, Call, Act, Trap, Tape}

abbrev pub io : IoKind → Io
io io_kind.Io = Io.io
io io_kind.Io1 = Io.io1

abbrev pub action : ActKind → Action
action act_kind.Pure = Action.pure Io.io
action act_kind.Pure1 = Action.pure Io.io1
action act_kind.PutLine = Action.put_line
action act_kind.GetLine = Action.get_line
action act_kind.Open = Action.opens
action act_kind.Write = Action.writes
action act_kind.Close = Action.closes
action act_kind.BindIoIo = Action.bind Io.io Io.io
action act_kind.BindIoIo1 = Action.bind Io.io Io.io1
action act_kind.BindIo1Io = Action.bind Io.io1 Io.io
action act_kind.BindIo1Io1 = Action.bind Io.io1 Io.io1

-- components side by side
abbrev pub side_by_side : List Term → Terms
side_by_side [] = ε
side_by_side (t ∷ ts) = t ▸ side_by_side ts

-- one level, with each term inside already seen; a branch is seen with the number of its binders
abbrev pub term_step : Term-F Term (ℕ × Term) Term Term → Term
term_step (Term-F.Var i) = var i
term_step (Term-F.Sort l) = Sort l
term_step (Term-F.Pi q a b) = Pi q a.value b.value
term_step (Term-F.Lam q a b) = Lam q a.value b.value
term_step (Term-F.App q f a) = App q f.value a.value
term_step (Term-F.Fam id ts) = Fam id (side_by_side ts.items)
term_step (Term-F.Con c ps ts) =
    node (Form.con c.family c.place (length ps.items)) (side_by_side ps.items +++ side_by_side ts.items)
term_step (Term-F.Case c) = c.value
term_step (Term-F.Delete d) = d.value
term_step (Term-F.Def id) = Def id
term_step (Term-F.Lit l) = node (Form.named (Named.lit l)) ε
term_step Term-F.IntTy = TypeOf PrimTy.int ε
term_step Term-F.StringTy = TypeOf PrimTy.string ε
term_step Term-F.HandleTy = TypeOf PrimTy.handle ε
term_step (Term-F.IoTy m a) = TypeOf (PrimTy.io_of (io m)) (a.value ▸ ε)
term_step (Term-F.Prim p ts) = Call p (side_by_side ts.items)
term_step (Term-F.Act k ts xs) = Act (action k) (length ts.items) (side_by_side ts.items +++ side_by_side xs.items)
term_step (Term-F.Trap a) = Trap a.value
term_step (Term-F.Tape n) = Tape n

abbrev pub branch_step : Branch-F Term (ℕ × Term) Term Term → ℕ × Term
branch_step b = (b.fields, b.body)

abbrev pub case_step : Case-F Term (ℕ × Term) Term Term → Term
case_step c =
    node (Form.case c.mult c.family (length c.params.items) (c.indices + 1) (map (λ b. b.0) c.branches.items))
    (side_by_side c.params.items +++
    (c.motive ▸ (side_by_side (map (λ b. b.1) c.branches.items) +++ (c.scrutinee ▸ ε))))

abbrev pub delete_step : Delete-F Term (ℕ × Term) Term Term → Term
delete_step d = Delete d.mult d.ty d.point d.motive d.branch d.scrutinee

-- the term that a term of the code stands for
abbrev pub term : code.Term → Term
term = code.fold-Term Term (ℕ × Term) Term Term term_step branch_step case_step delete_step

abbrev pub branch : code_branch.Branch → ℕ × Term
branch = code_branch.fold-Branch Term (ℕ × Term) Term Term term_step branch_step case_step delete_step

abbrev pub case : code_case.Case → Term
case = code_case.fold-Case Term (ℕ × Term) Term Term term_step branch_step case_step delete_step

abbrev pub delete : code_delete.Delete → Term
delete = code_delete.fold-Delete Term (ℕ × Term) Term Term term_step branch_step case_step delete_step

abbrev pub terms : List code.Term → List Term
terms = map term

abbrev pub branches : List code_branch.Branch → List (ℕ × Term)
branches = map branch
