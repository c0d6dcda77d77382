-- Lowering of flat terms to instructions. A term's code leaves its value on top of what was pushed; in tail
-- position it gives the value back. The components come first, left to right; of a Case the scrutinee comes
-- first, then the switch, then the branches.
use Rattle.std.specs.Prelude.{ℕ, zero, suc, ◌+◌, ◌-◌, ltb, List, [], ◌∷◌, ◌++◌, length, map, cond}
use Rattle.qtt_base.specs.declared.place.GlobalId.{GlobalId}
use Rattle.qtt_erase.specs.Binding.{Tree, ∅, ◌◂◌, size}
use Rattle.qtt_erase.specs.Operator.{Operator}
use Rattle.qtt_closure.specs.Flat.{Closure, FlatTerm, FlatTerms, Function}
use Rattle.qtt_code.specs.Instruction.{Position, Instr, Block}

-- ---- an operator's own instructions
-- what pushes a value, and in tail position gives it back
abbrev pub given : Position → Instr → List Instr
given Position.inner i = i ∷ []
given Position.tail i = i ∷ Instr.return ∷ []

-- the variables are the captured ones, the outermost first, and then the locals
abbrev pub variable : ℕ → ℕ → Instr
variable captured l = cond (ltb l captured) (Instr.captured l) (Instr.local (l - captured))

-- where definitions have these blocks: behind the code of n components, and before branches with their code at
-- these places. No tape stands in a definition
abbrev pub own : (GlobalId → ℕ) → Position → Operator Closure → ℕ → List ℕ → List Instr
own entry o (Operator.function f) n places = given o (Instr.closure f.number n)
own entry o Operator.app n places = Instr.call o ∷ []
own entry o Operator.force n places = Instr.force o ∷ []
own entry o (Operator.def d) n places = Instr.enter o (entry d) ∷ []
own entry o (Operator.con c) n places = given o (Instr.con c n)
own entry o (Operator.case ns) n places = Instr.switch places ∷ []
own entry o (Operator.lit l) n places = given o (Instr.literal l)
own entry o (Operator.prim p) n places = given o (Instr.prim p)
own entry o (Operator.act a) n places = given o (Instr.action a n)
own entry o Operator.trap n places = Instr.trap ∷ []
own entry o Operator.ty n places = given o Instr.type
own entry o (Operator.tape t) n places = Instr.trap ∷ []

-- how many these are
abbrev pub given_width : Position → ℕ
given_width Position.inner = 1
given_width Position.tail = 2

abbrev pub own_width : Position → Operator Closure → ℕ
own_width o (Operator.function f) = given_width o
own_width o Operator.app = 1
own_width o Operator.force = 1
own_width o (Operator.def d) = 1
own_width o (Operator.con c) = given_width o
own_width o (Operator.case ns) = 1
own_width o (Operator.lit l) = given_width o
own_width o (Operator.prim p) = given_width o
own_width o (Operator.act a) = given_width o
own_width o Operator.trap = 1
own_width o Operator.ty = given_width o
own_width o (Operator.tape t) = 1

-- ---- branches
-- how many binders each branch stands under
abbrev pub branches : Operator Closure → List ℕ
branches (Operator.case ns) = ns
branches _ = []

-- how many of the first components are branches
abbrev pub branch_count : Operator Closure → ℕ
branch_count F = length (branches F)

abbrev pub drops : ℕ → List Instr
drops zero = []
drops (suc n) = Instr.leave (suc n) ∷ []

-- the last branch has its end behind it
abbrev pub jumps : List ℕ → ℕ → List Instr
jumps [] end = []
jumps (n ∷ ns) end = Instr.jump end ∷ []

-- what follows a branch with n fields before those with ns, where the Case ends at a place
abbrev pub joins : Position → ℕ → List ℕ → ℕ → List Instr
joins Position.inner n ns end = drops n ++ jumps ns end
joins Position.tail n ns end = []

-- how many these are
abbrev pub join_width : Position → ℕ → List ℕ → ℕ
join_width o n ns = length (joins o n ns 0)

-- ---- how many instructions a term has
abbrev mutual
  pub width : Position → FlatTerm → ℕ
  width o (Tree.var i) = given_width o
  width o (Tree.node F ts) = widths (branch_count F) ts + own_width o F + branch_widths o (branches F) ts

  -- the components behind the first k
  pub widths : ℕ → FlatTerms → ℕ
  widths k ∅ = 0
  widths zero (t ◂ ts) = width Position.inner t + widths zero ts
  widths (suc k) (t ◂ ts) = widths k ts

  -- the first components, which are branches with so many fields, and what follows each
  pub branch_widths : Position → List ℕ → FlatTerms → ℕ
  branch_widths o [] ts = 0
  branch_widths o (n ∷ ns) ∅ = 0
  branch_widths o (n ∷ ns) (t ◂ ts) = width o t + join_width o n ns + branch_widths o ns ts

-- the places of branches, the first of them at place p
abbrev pub branch_places : Position → ℕ → List ℕ → FlatTerms → List ℕ
branch_places o p [] ts = []
branch_places o p (n ∷ ns) ∅ = []
branch_places o p (n ∷ ns) (t ◂ ts) = p ∷ branch_places o (p + width o t + join_width o n ns) ns ts

-- the place behind the components and the operator itself
abbrev pub branches_from : Position → ℕ → Operator Closure → FlatTerms → ℕ
branches_from o p F ts = p + widths (branch_count F) ts + own_width o F

-- ---- the code of a term of d variables from place p on, where definitions have these blocks and so many of the
-- variables are captured
module _ (entry : GlobalId → ℕ) (captured : ℕ) where
  abbrev mutual
    pub code : Position → ℕ → ℕ → FlatTerm → List Instr
    code o d p (Tree.var i) = given o (variable captured (d - suc i))
    code o d p (Tree.node F ts) =
        operands d p (branch_count F) ts
        ++ own entry o F (size ts) (branch_places o (branches_from o p F ts) (branches F) ts)
        ++ branch_codes o d (branches_from o p F ts) (p + width o (Tree.node F ts)) (branches F) ts

    -- of the components behind the first k
    pub operands : ℕ → ℕ → ℕ → FlatTerms → List Instr
    operands d p k ∅ = []
    operands d p zero (t ◂ ts) = code Position.inner d p t ++ operands d (p + width Position.inner t) zero ts
    operands d p (suc k) (t ◂ ts) = operands d p k ts

    -- of the first components, which are branches with so many fields, of a Case that ends at a place
    pub branch_codes : Position → ℕ → ℕ → ℕ → List ℕ → FlatTerms → List Instr
    branch_codes o d p end [] ts = []
    branch_codes o d p end (n ∷ ns) ∅ = []
    branch_codes o d p end (n ∷ ns) (t ◂ ts) =
        code o (n + d) p t ++ joins o n ns end ++ branch_codes o d (p + width o t + join_width o n ns) end ns ts

-- ---- the block of a definition's function
abbrev pub block : (GlobalId → ℕ) → GlobalId → Function → Block
block entry d F = record {
  owner = d;
  captured = F.captured;
  takes = F.takes;
  code = code entry F.captured Position.tail (F.captured + F.takes) 0 F.body;
}

abbrev pub blocks : (GlobalId → ℕ) → GlobalId → List Function → List Block
blocks entry d Fs = map (block entry d) Fs
