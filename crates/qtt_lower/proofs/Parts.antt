-- Where the parts of a term's code stand.
use Rattle.std.proofs.Common.{◌≡◌, ℕ, zero, suc, ◌+◌, List, [], ◌∷◌, ◌++◌, length, refl, ◌∙◌, ap, subst, arith, length-append}
use mathlib.Core.Path.{ap₂}
use Rattle.qtt_base.specs.declared.place.GlobalId.{GlobalId}
use Rattle.qtt_erase.specs.Binding.{Tree, ∅, ◌◂◌, ◌◂◂◌, size, lifts, sub, subs}
use Rattle.qtt_erase.specs.Operator.{Operator}
use Rattle.qtt_closure.specs.Flat.{Closure, FlatTerm, FlatTerms, binders}
use Rattle.qtt_code.specs.Instruction.{Position, Instr}
use Rattle.qtt_lower.specs.Lowering.{given, own, given_width, own_width, branches, branch_count, jumps, joins, join_width, width, widths, branch_widths, branch_places, branches_from, code, operands, branch_codes}
use Rattle.qtt_lower.specs.Represents.{Stands, firsts, rest_from, rest_end}

-- ---- instructions from a place on
pub stands-left : (is : List Instr) (p : ℕ) (xs ys : List Instr) → Stands is p (xs ++ ys) → Stands is p xs
stands-left is p [] ys h = tt
stands-left is p (x ∷ xs) ys h = (h.0, stands-left is (suc p) xs ys h.1)

pub stands-right : (is : List Instr) (p : ℕ) (xs ys : List Instr) (q : ℕ) → q ≡ p + length xs →
    Stands is p (xs ++ ys) → Stands is q ys
stands-right is p [] ys q e h = subst (λ r. Stands is r ys) (let f : p ≡ q = omega (arith, e) in f) h
stands-right is p (x ∷ xs) ys q e h = stands-right is (suc p) xs ys q (omega (arith, e)) h.1

stands-later : (i : Instr) (is : List Instr) (p : ℕ) (js : List Instr) → Stands is p js → Stands (i ∷ is) (suc p) js
stands-later i is p [] h = tt
stands-later i is p (j ∷ js) h = (h.0, stands-later i is (suc p) js h.1)

-- a block's code stands in it
pub stands-whole : (is : List Instr) → Stands is 0 is
stands-whole [] = tt
stands-whole (i ∷ is) = (refl, stands-later i is 0 is (stands-whole is))

-- ---- how many instructions there are
given-length : (o : Position) (i : Instr) → length (given o i) ≡ given_width o
given-length Position.inner i = refl
given-length Position.tail i = refl

pub own-length : (e : GlobalId → ℕ) (o : Position) (F : Operator Closure) (n : ℕ) (qs : List ℕ) →
    length (own e o F n qs) ≡ own_width o F
own-length e o (Operator.function f) n qs = given-length o _
own-length e o Operator.app n qs = refl
own-length e o Operator.force n qs = refl
own-length e o (Operator.def d) n qs = refl
own-length e o (Operator.con c) n qs = given-length o _
own-length e o (Operator.case ns) n qs = refl
own-length e o (Operator.lit l) n qs = given-length o _
own-length e o (Operator.prim p) n qs = given-length o _
own-length e o (Operator.act a) n qs = given-length o _
own-length e o Operator.trap n qs = refl
own-length e o Operator.ty n qs = given-length o _
own-length e o (Operator.tape t) n qs = refl

jumps-length : (ns : List ℕ) (q r : ℕ) → length (jumps ns q) ≡ length (jumps ns r)
jumps-length [] q r = refl
jumps-length (n ∷ ns) q r = refl

pub joins-length : (o : Position) (n : ℕ) (ns : List ℕ) (end : ℕ) → length (joins o n ns end) ≡ join_width o n ns
joins-length Position.inner zero ns end = jumps-length ns end 0
joins-length Position.inner (suc n) ns end = ap suc (jumps-length ns end 0)
joins-length Position.tail n ns end = refl

three-length : (xs ys zs : List Instr) → length (xs ++ ys ++ zs) ≡ length xs + length ys + length zs
three-length xs ys zs = length-append (xs ++ ys) zs ∙ ap (λ n. n + length zs) (length-append xs ys)

module _ (e : GlobalId → ℕ) (c : ℕ) where
  mutual
    pub code-length : (o : Position) (d p : ℕ) (t : FlatTerm) → length (code e c o d p t) ≡ width o t
    code-length o d p (Tree.var i) = given-length o _
    code-length o d p (Tree.node F ts) =
        let q : ℕ = branches_from o p F ts in
        let r : ℕ = p + width o (Tree.node F ts) in
        three-length (operands e c d p (branch_count F) ts)
        (own e o F (size ts) (branch_places o q (branches F) ts)) (branch_codes e c o d q r (branches F) ts)
        ∙ ap₂ ◌+◌ (ap₂ ◌+◌ (operands-length d p (branch_count F) ts)
        (own-length e o F (size ts) (branch_places o q (branches F) ts)))
        (branches-length o d q r (branches F) ts)

    pub operands-length : (d p k : ℕ) (ts : FlatTerms) → length (operands e c d p k ts) ≡ widths k ts
    operands-length d p k ∅ = refl
    operands-length d p zero (t ◂ ts) =
        length-append (code e c Position.inner d p t) (operands e c d (p + width Position.inner t) zero ts)
        ∙ ap₂ ◌+◌ (code-length Position.inner d p t) (operands-length d (p + width Position.inner t) zero ts)
    operands-length d p (suc k) (t ◂ ts) = operands-length d p k ts

    pub branches-length : (o : Position) (d p end : ℕ) (ns : List ℕ) (ts : FlatTerms) →
        length (branch_codes e c o d p end ns ts) ≡ branch_widths o ns ts
    branches-length o d p end [] ts = refl
    branches-length o d p end (n ∷ ns) ∅ = refl
    branches-length o d p end (n ∷ ns) (t ◂ ts) =
        three-length (code e c o (n + d) p t) (joins o n ns end)
        (branch_codes e c o d (p + width o t + join_width o n ns) end ns ts)
        ∙ ap₂ ◌+◌ (ap₂ ◌+◌ (code-length o (n + d) p t) (joins-length o n ns end))
        (branches-length o d (p + width o t + join_width o n ns) end ns ts)

-- ---- components behind the first k
abbrev pub lasts : ℕ → FlatTerms → FlatTerms
lasts zero ts = ts
lasts (suc k) ∅ = ∅
lasts (suc k) (t ◂ ts) = lasts k ts

lasts-widths : (k : ℕ) (ts : FlatTerms) → widths k ts ≡ widths 0 (lasts k ts)
lasts-widths zero ts = refl
lasts-widths (suc k) ∅ = refl
lasts-widths (suc k) (t ◂ ts) = lasts-widths k ts

lasts-operands : (e : GlobalId → ℕ) (c d p k : ℕ) (ts : FlatTerms) →
    operands e c d p k ts ≡ operands e c d p 0 (lasts k ts)
lasts-operands e c d p zero ts = refl
lasts-operands e c d p (suc k) ∅ = refl
lasts-operands e c d p (suc k) (t ◂ ts) = lasts-operands e c d p k ts

-- a term's code is that of its components, of its operator and of its branches
pub code-parts : (e : GlobalId → ℕ) (c : ℕ) (o : Position) (d p : ℕ) (F : Operator Closure) (ts : FlatTerms) →
    code e c o d p (Tree.node F ts)
    ≡ operands e c d p 0 (lasts (branch_count F) ts)
    ++ own e o F (size ts) (branch_places o (rest_from o p F (lasts (branch_count F) ts)) (branches F) ts)
    ++ branch_codes e c o d (rest_from o p F (lasts (branch_count F) ts))
    (rest_end o p F ts (lasts (branch_count F) ts)) (branches F) ts
code-parts e c o d p F ts =
    let w = lasts-widths (branch_count F) ts in
    let q : branches_from o p F ts ≡ rest_from o p F (lasts (branch_count F) ts) = ap (λ n. p + n + own_width o F) w in
    let r : p + width o (Tree.node F ts) ≡ rest_end o p F ts (lasts (branch_count F) ts) = omega (arith, w) in
    ap₂ ◌++◌ (ap₂ ◌++◌ (lasts-operands e c d p (branch_count F) ts)
    (ap (λ x. own e o F (size ts) (branch_places o x (branches F) ts)) q))
    (ap₂ (λ x y. branch_codes e c o d x y (branches F) ts) q r)

pub parts-end : (o : Position) (p : ℕ) (F : Operator Closure) (ts : FlatTerms) →
    p + width o (Tree.node F ts) ≡ rest_end o p F ts (lasts (branch_count F) ts)
parts-end o p F ts = let w = lasts-widths (branch_count F) ts in omega (arith, w)

-- ---- filled components: the branches, then the others
pub filled-parts : (ns : List ℕ) (σ : ℕ → FlatTerm) (ts : FlatTerms) →
    subs binders ns σ ts ≡ subs binders ns σ (firsts (length ns) ts) ◂◂ subs binders [] σ (lasts (length ns) ts)
filled-parts [] σ ts = refl
filled-parts (n ∷ ns) σ ∅ = refl
filled-parts (n ∷ ns) σ (t ◂ ts) = ap (λ us. sub binders (lifts binders n σ) t ◂ us) (filled-parts ns σ ts)

pub operator-binders : (F : Operator Closure) → binders F ≡ branches F
operator-binders (Operator.function f) = refl
operator-binders Operator.app = refl
operator-binders Operator.force = refl
operator-binders (Operator.def d) = refl
operator-binders (Operator.con c) = refl
operator-binders (Operator.case ns) = refl
operator-binders (Operator.lit l) = refl
operator-binders (Operator.prim p) = refl
operator-binders (Operator.act a) = refl
operator-binders Operator.trap = refl
operator-binders Operator.ty = refl
operator-binders (Operator.tape n) = refl
