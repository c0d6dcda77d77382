-- Which flat term a state of the machine stands for. The frame that runs computes a part of the term; the
-- operators around that part are pending: of each, the components so far are values, which stand among what its
-- frame has pushed, and its code goes on behind them.
use Rattle.std.specs.Prelude.{◌≡◌, ℕ, zero, suc, ◌+◌, List, [], ◌∷◌, ◌++◌, length, Some, slice_get}
use Rattle.qtt_base.specs.declared.place.GlobalId.{GlobalId}
use Rattle.qtt_erase.specs.Binding.{Tree, ∅, ◌◂◌, ◌◂◂◌, size, push, sub, subs}
use Rattle.qtt_erase.specs.Operator.{Operator, Con, Literal, Act, Ty, Tape}
use Rattle.qtt_closure.specs.Flat.{Closure, FlatTerm, FlatTerms, binders}
use Rattle.qtt_closure.specs.Conversion.{closure_at}
use Rattle.qtt_code.specs.Value.{Value, Values, ◌▹◌}
use Rattle.qtt_code.specs.Instruction.{Position, Instr}
use Rattle.qtt_code.specs.Machine.{Frame, State, moved, onward, left_with, with_locals}
use Rattle.qtt_lower.specs.Lowering.{own, own_width, branches, branch_count, width, widths, branch_widths, branch_places, code, operands, branch_codes}
use Rattle.qtt_lower.specs.Lowerable.{Lowerable, AllLowerable}

-- ---- values
abbrev mutual
  pub flat_value : Value → FlatTerm
  flat_value (Value.literal l) = Literal l
  flat_value (Value.con c vs) = Con c (flat_values vs)
  flat_value (Value.closure b vs) = closure_at b (flat_values vs)
  flat_value (Value.action a vs) = Act a (flat_values vs)
  flat_value (Value.tape n) = Tape n
  flat_value Value.type = Ty

  pub flat_values : Values → FlatTerms
  flat_values Values.none = ∅
  flat_values (v ▹ vs) = flat_value v ◂ flat_values vs

abbrev pub flats : List Value → FlatTerms
flats [] = ∅
flats (v ∷ vs) = flat_value v ◂ flats vs

abbrev pub count : Values → ℕ
count Values.none = 0
count (v ▹ vs) = suc (count vs)

-- values pushed one after another on others
abbrev pub onto : Values → List Value → List Value
onto Values.none below = below
onto (v ▹ vs) below = onto vs (v ∷ below)

-- ---- what a frame has for the variables of its function
abbrev pub variables : Frame → List Value
variables f = f.captured ++ f.locals

abbrev pub depth : Frame → ℕ
depth f = length (variables f)

abbrev pub filling : Frame → ℕ → FlatTerm
filling f = push (flats (variables f)) Tree.var

abbrev pub filled : Frame → FlatTerm → FlatTerm
filled f = sub binders (filling f)

-- ---- operators that wait for a component
-- the components in front of it, and those behind it
pub record Pending : Type 0 where
  pub operator : Operator Closure
  pub before : FlatTerms
  pub behind : FlatTerms

-- the innermost first
abbrev pub plug : List Pending → FlatTerm → FlatTerm
plug [] t = t
plug (p ∷ ps) t = plug ps (Tree.node p.operator (p.before ◂◂ t ◂ p.behind))

abbrev pub firsts : ℕ → FlatTerms → FlatTerms
firsts zero ts = ∅
firsts (suc k) ∅ = ∅
firsts (suc k) (t ◂ ts) = t ◂ firsts k ts

-- the branches of an operator with components ts
abbrev pub front : Frame → Operator Closure → FlatTerms → FlatTerms
front f F ts = subs binders (branches F) (filling f) (firsts (branch_count F) ts)

-- such an operator, where the components behind the branches have values so far, and us are still to be computed
-- behind the next one
abbrev pub pending : Frame → Operator Closure → FlatTerms → Values → FlatTerms → Pending
pending f F ts vs us = record
    { operator = F; before = front f F ts ◂◂ flat_values vs; behind = subs binders [] (filling f) us }

-- ---- instructions from a place on
abbrev pub Stands : List Instr → ℕ → List Instr → Type 0
Stands is p [] = Unit {0}
Stands is p (j ∷ js) = (slice_get is p ≡ Some j) × Stands is (suc p) js

abbrev pub Next : Frame → Instr → Type 0
Next f i = slice_get f.code f.place ≡ Some i

-- an operator whose components are computed; those of a closure are variables, and the others have none
abbrev pub IsComputed : Operator Closure → Type 0
IsComputed Operator.app = Unit {0}
IsComputed Operator.force = Unit {0}
IsComputed (Operator.con c) = Unit {0}
IsComputed (Operator.case ns) = Unit {0}
IsComputed (Operator.prim p) = Unit {0}
IsComputed (Operator.act a) = Unit {0}
IsComputed _ = ⊥

-- the place of the branches behind components us from place p on, and the place behind them
abbrev pub rest_from : Position → ℕ → Operator Closure → FlatTerms → ℕ
rest_from o p F us = p + widths 0 us + own_width o F

abbrev pub rest_end : Position → ℕ → Operator Closure → FlatTerms → FlatTerms → ℕ
rest_end o p F ts us = rest_from o p F us + branch_widths o (branches F) ts

module _ (entry : GlobalId → ℕ) where
  -- the code of a term in a frame
  abbrev pub code_in : Frame → Position → FlatTerm → List Instr
  code_in f o u = code entry (length f.captured) o (depth f) f.place u

  -- of the components us, then the operator itself and its branches
  abbrev pub rest_in : Frame → Position → Operator Closure → FlatTerms → FlatTerms → List Instr
  rest_in f o F ts us =
      operands entry (length f.captured) (depth f) f.place 0 us
      ++ own entry o F (size ts) (branch_places o (rest_from o f.place F us) (branches F) ts)
      ++ branch_codes entry (length f.captured) o (depth f) (rest_from o f.place F us)
      (rest_end o f.place F ts us) (branches F) ts

  -- components with these values are pushed on others, k further ones before us are not, and the code goes on
  -- with us
  pub record IsComputing (f : Frame) (o : Position) (F : Operator Closure) (ts : FlatTerms) (vs : Values) (k : ℕ)
      (us : FlatTerms) (below : List Value) : Type 0 where
    pub computed : IsComputed F
    pub counted : branch_count F + (count vs + k + size us) ≡ size ts
    pub branches_lowerable : AllLowerable (branches F) (depth f) (firsts (branch_count F) ts)
    pub components_lowerable : AllLowerable [] (depth f) us
    pub pushed : f.pushed ≡ onto vs below
    pub stands : Stands f.code f.place (rest_in f o F ts us)

  mutual
    -- frames that wait for a value complete these operators with it
    pub data Waits : List Frame → List Pending → Type 0 where
      nothing : Waits [] []
      frame : {f : Frame} {fs : List Frame} {ps : List Pending} → Continues f fs ps → Waits (f ∷ fs) ps

    -- a frame before others does, once a value is pushed
    pub data Continues : Frame → List Frame → List Pending → Type 0 where
      returns : {f : Frame} {fs : List Frame} {ps : List Pending} → Next f Instr.return → f.pushed ≡ [] →
          Waits fs ps → Continues f fs ps
      jumps : {f : Frame} {fs : List Frame} {ps : List Pending} (q : ℕ) → Next f (Instr.jump q) →
          Continues (moved q f) fs ps → Continues f fs ps
      leaves : {f : Frame} {fs : List Frame} {ps : List Pending} (kept dropped : List Value) →
          Next f (Instr.leave (length dropped)) →
          f.locals ≡ kept ++ dropped → Continues (onward (with_locals kept f)) fs ps → Continues f fs ps
      component : {f : Frame} {fs : List Frame} {ps : List Pending} (o : Position) (F : Operator Closure)
          (ts : FlatTerms) (vs : Values) (us : FlatTerms)
          (below : List Value) → IsComputing f o F ts vs 1 us below →
          Ends o (moved (rest_end o f.place F ts us) (left_with below f)) fs ps →
          Continues f fs (pending f F ts vs us ∷ ps)

    -- a term's code is followed by what does so, or gives its value back
    pub data Ends : Position → Frame → List Frame → List Pending → Type 0 where
      goes_on : {f : Frame} {fs : List Frame} {ps : List Pending} → Continues f fs ps → Ends Position.inner f fs ps
      gives_back : {f : Frame} {fs : List Frame} {ps : List Pending} → f.pushed ≡ [] → Waits fs ps →
          Ends Position.tail f fs ps

  pub data Represents : FlatTerm → State → Type 0 where
    -- the code of a term is next
    computes : {f : Frame} {fs : List Frame} {ps : List Pending} (o : Position) (u : FlatTerm) → Lowerable (depth f) u →
        Stands f.code f.place (code_in f o u) → Ends o (moved (f.place + width o u) f) fs ps →
        Represents (plug ps (filled f u)) (record { frame = f; waiting = fs })
    -- a value was pushed
    has : {f : Frame} {fs : List Frame} {ps : List Pending} (v : Value) → Continues f fs ps →
        Represents (plug ps (flat_value v)) (record { frame = left_with (v ∷ f.pushed) f; waiting = fs })
