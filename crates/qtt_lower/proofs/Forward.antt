-- Each jump of lowered code goes to a later place: only a branch in front of others has one, and it goes to the
-- end of its Case.
use Rattle.std.proofs.Common.{◌≡◌, ℕ, zero, suc, ◌+◌, ◌-◌, ◌<◌, ◌≤◌, List, [], ◌∷◌, ◌++◌, length, Some, Bool, true, false, cond, ltb, refl, subst, arith, length-append}
use Rattle.std.specs.List.{slice_get}
use Rattle.qtt_base.specs.declared.place.GlobalId.{GlobalId}
use Rattle.qtt_erase.specs.Binding.{Tree, ∅, ◌◂◌, size}
use Rattle.qtt_erase.specs.Operator.{Operator}
use Rattle.qtt_closure.specs.Flat.{Closure, FlatTerm, FlatTerms, Function}
use Rattle.qtt_closure.specs.Conversion.{conversion}
use Rattle.qtt_code.specs.Instruction.{Position, Instr, Program}
use Rattle.qtt_code.specs.Forward.{JumpsForward, AllJumpForward}
use Rattle.qtt_lower.specs.Lowering.{given, own, branches, branch_count, jumps, joins, join_width, width, branch_widths, branch_places, branches_from, code, operands, branch_codes, block, blocks}
use Rattle.qtt_lower.specs.Programs.{Body, numbers_end, entry, bases, lowered, program_from, program}
use Rattle.qtt_lower.proofs.Parts.{own-length, joins-length, code-length, operands-length}

-- instructions from place p on, in which each jump goes to a later place
abbrev pub ForwardFrom : ℕ → List Instr → Type 0
ForwardFrom p [] = Unit {0}
ForwardFrom p (i ∷ is) = ((to : ℕ) → i ≡ Instr.jump to → p < to) × ForwardFrom (suc p) is

forward-at : (p : ℕ) (is : List Instr) → ForwardFrom p is → (k to : ℕ) → slice_get is k ≡ Some (Instr.jump to) →
    p + k < to
forward-at p [] f k to h = absurd (cc h)
forward-at p (i ∷ is) f zero to h = let l : p < to = f.0 to (cc h) in omega (arith, l)
forward-at p (i ∷ is) f (suc k) to h = let l : suc p + k < to = forward-at (suc p) is f.1 k to h in omega (arith, l)

forward-append : (p : ℕ) (xs ys : List Instr) (q : ℕ) → q ≡ p + length xs → ForwardFrom p xs → ForwardFrom q ys →
    ForwardFrom p (xs ++ ys)
forward-append p [] ys q e f g = subst (λ r. ForwardFrom r ys) (let h : q ≡ p = omega (arith, e) in h) g
forward-append p (x ∷ xs) ys q e f g = (f.0, forward-append (suc p) xs ys q (omega (arith, e)) f.1 g)

-- ---- an operator's own instructions have no jump
abbrev NoJump : Instr → Type 0
NoJump i = (to : ℕ) → i ≡ Instr.jump to → ⊥

one-forward : (p : ℕ) (i : Instr) → NoJump i → ForwardFrom p (i ∷ [])
one-forward p i n = (λ to h. absurd (n to h), tt)

given-forward : (o : Position) (p : ℕ) (i : Instr) → NoJump i → ForwardFrom p (given o i)
given-forward Position.inner p i n = one-forward p i n
given-forward Position.tail p i n = (λ to h. absurd (n to h), one-forward (suc p) Instr.return (λ to h. cc h))

chosen-no-jump : (b : Bool) (i j : Instr) → NoJump i → NoJump j → NoJump (cond b i j)
chosen-no-jump true i j m n = m
chosen-no-jump false i j m n = n

own-forward : (e : GlobalId → ℕ) (o : Position) (p : ℕ) (F : Operator Closure) (n : ℕ) (qs : List ℕ) →
    ForwardFrom p (own e o F n qs)
own-forward e o p (Operator.function f) n qs = given-forward o p _ (λ to h. cc h)
own-forward e o p Operator.app n qs = one-forward p _ (λ to h. cc h)
own-forward e o p Operator.force n qs = one-forward p _ (λ to h. cc h)
own-forward e o p (Operator.def d) n qs = one-forward p _ (λ to h. cc h)
own-forward e o p (Operator.con c) n qs = given-forward o p _ (λ to h. cc h)
own-forward e o p (Operator.case ns) n qs = one-forward p _ (λ to h. cc h)
own-forward e o p (Operator.lit l) n qs = given-forward o p _ (λ to h. cc h)
own-forward e o p (Operator.prim q) n qs = given-forward o p _ (λ to h. cc h)
own-forward e o p (Operator.act a) n qs = given-forward o p _ (λ to h. cc h)
own-forward e o p Operator.trap n qs = one-forward p _ (λ to h. cc h)
own-forward e o p Operator.ty n qs = given-forward o p _ (λ to h. cc h)
own-forward e o p (Operator.tape t) n qs = one-forward p _ (λ to h. cc h)

-- ---- what follows a branch
jumps-forward : (p : ℕ) (ns : List ℕ) (end : ℕ) → p + length (jumps ns 0) ≤ end → ForwardFrom p (jumps ns end)
jumps-forward p [] end h = tt
jumps-forward p (n ∷ ns) end h = (λ to e. let k : end ≡ to = cc e in omega (arith, h, k), tt)

joins-forward : (o : Position) (p n : ℕ) (ns : List ℕ) (end : ℕ) → p + join_width o n ns ≤ end →
    ForwardFrom p (joins o n ns end)
joins-forward Position.inner p zero ns end h = jumps-forward p ns end h
joins-forward Position.inner p (suc n) ns end h =
    (λ to e. absurd (cc e), jumps-forward (suc p) ns end (omega (arith, h)))
joins-forward Position.tail p n ns end h = tt

-- ---- terms
module _ (e : GlobalId → ℕ) (c : ℕ) where
  mutual
    code-forward : (o : Position) (d p : ℕ) (t : FlatTerm) → ForwardFrom p (code e c o d p t)
    code-forward o d p (Tree.var i) =
        given-forward o p _ (chosen-no-jump (ltb (d - suc i) c) _ _ (λ to h. cc h) (λ to h. cc h))
    code-forward o d p (Tree.node F ts) =
        let q : ℕ = branches_from o p F ts in
        let end : ℕ = p + width o (Tree.node F ts) in
        let xs : List Instr = operands e c d p (branch_count F) ts in
        let ys : List Instr = own e o F (size ts) (branch_places o q (branches F) ts) in
        let l = operands-length e c d p (branch_count F) ts in
        let m = own-length e o F (size ts) (branch_places o q (branches F) ts) in
        let k = length-append xs ys in
        forward-append p (xs ++ ys) (branch_codes e c o d q end (branches F) ts) q (omega (arith, k, l, m))
        (forward-append p xs ys (p + length xs) refl (operands-forward d p (branch_count F) ts)
        (own-forward e o (p + length xs) F (size ts) (branch_places o q (branches F) ts)))
        (branches-forward o d q end (branches F) ts (omega arith))

    operands-forward : (d p k : ℕ) (ts : FlatTerms) → ForwardFrom p (operands e c d p k ts)
    operands-forward d p k ∅ = tt
    operands-forward d p zero (t ◂ ts) =
        let l = code-length e c Position.inner d p t in
        forward-append p (code e c Position.inner d p t) (operands e c d (p + width Position.inner t) zero ts)
        (p + width Position.inner t) (omega (arith, l))
        (code-forward Position.inner d p t) (operands-forward d (p + width Position.inner t) zero ts)
    operands-forward d p (suc k) (t ◂ ts) = operands-forward d p k ts

    branches-forward : (o : Position) (d p end : ℕ) (ns : List ℕ) (ts : FlatTerms) → p + branch_widths o ns ts ≤ end →
        ForwardFrom p (branch_codes e c o d p end ns ts)
    branches-forward o d p end [] ts h = tt
    branches-forward o d p end (n ∷ ns) ∅ h = tt
    branches-forward o d p end (n ∷ ns) (t ◂ ts) h =
        let xs : List Instr = code e c o (n + d) p t in
        let ys : List Instr = joins o n ns end in
        let q : ℕ = p + width o t + join_width o n ns in
        let l = code-length e c o (n + d) p t in
        let m = joins-length o n ns end in
        let k = length-append xs ys in
        forward-append p (xs ++ ys) (branch_codes e c o d q end ns ts) q (omega (arith, k, l, m))
        (forward-append p xs ys (p + width o t) (omega (arith, l)) (code-forward o (n + d) p t)
        (joins-forward o (p + width o t) n ns end (omega (arith, h))))
        (branches-forward o d q end ns ts (omega (arith, h)))

-- ---- programs
blocks-forward : (e : GlobalId → ℕ) (d : GlobalId) (Fs : List Function) → AllJumpForward (blocks e d Fs)
blocks-forward e d [] b B h = absurd (cc h)
blocks-forward e d (F ∷ Fs) zero B h =
    subst (λ C. JumpsForward C.code) (let k : block e d F ≡ B = cc h in k)
    (λ place to g. let l = forward-at 0 (block e d F).code
    (code-forward e F.captured Position.tail (F.captured + F.takes) 0 F.body) place to g in omega (arith, l))
blocks-forward e d (F ∷ Fs) (suc b) B h = blocks-forward e d Fs b B h

programs-append : (P Q : Program) → AllJumpForward P → AllJumpForward Q → AllJumpForward (P ++ Q)
programs-append [] Q f g b C h = g b C h
programs-append (B ∷ P) Q f g zero C h = f zero C h
programs-append (B ∷ P) Q f g (suc b) C h = programs-append P Q (λ k D m. f (suc k) D m) g b C h

program-forward : (e : GlobalId → ℕ) (n : ℕ) (bs : List Body) → AllJumpForward (program_from e n bs)
program-forward e n [] b B h = absurd (cc h)
program-forward e n (d ∷ bs) b B h =
    programs-append (lowered e n d) (program_from e (numbers_end n d.term) bs)
    (blocks-forward e d.id (conversion n d.term))
    (program-forward e (numbers_end n d.term) bs) b B h

pub jumps-go-forward : (bs : List Body) → AllJumpForward (program bs)
jumps-go-forward bs = program-forward (entry (bases bs)) 0 bs
