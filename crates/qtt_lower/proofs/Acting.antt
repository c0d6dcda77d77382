-- What the machine does at an operator whose components are computed, beside what its term does.
use Rattle.std.proofs.Common.{◌≡◌, ℕ, suc, ◌+◌, ◌-◌, List, [], ◌∷◌, ◌++◌, length, Option, Some, None, Bool, true, false, ◌&&◌, cond, eqb, ◌⊎◌, inl, inr, refl, sym, ◌∙◌, ap, subst, arith, length-append}
use Rattle.std.specs.List.{slice_get}
use Rattle.std.proofs.lemmas.Bool.{cases_lt, eqb-true, lt-ltb, le-ltb}
use mathlib.Core.Path.{ap₂}
use Rattle.qtt_base.specs.declared.place.GlobalId.{GlobalId}
use Rattle.qtt_prims.specs.declared.prim.Primitive.{Primitive}
use Rattle.qtt_prims.specs.declared.prim.Primitive.TheVariants as prim
use Rattle.qtt_prims.specs.declared.lit.Lit.{Lit}
use Rattle.qtt_prims.specs.declared.lit.Lit.TheVariants as lit
use Rattle.qtt_prims.specs.declared.answer.PrimAnswer.{PrimAnswer}
use Rattle.qtt_prims.specs.declared.answer.PrimAnswer.TheVariants as answer
use Rattle.qtt_prims.specs.Apply.{of_numbers, of_number, of_texts, apply}
use Rattle.qtt_term.specs.Contraction.{chain}
use Rattle.qtt_erase.specs.Binding.{Tree, ∅, ◌◂◌, ◌◂◂◌, size, push, sub}
use Rattle.qtt_erase.specs.Step.{Bodies, Outcome, contracts_to, beta, forcing}
use Rattle.qtt_erase.specs.Step as flat_step
use Rattle.qtt_erase.proofs.Bindings.{sub-var}
use Rattle.qtt_closure.specs.Flat as flat
use Rattle.qtt_closure.specs.Flat.{Closure, FlatTerm, FlatTerms, Function, binders, closures}
use Rattle.qtt_code.specs.Value.{Value, Values, ◌▹◌, listed}
use Rattle.qtt_code.specs.Instruction.{Position, Instr, Block, Program}
use Rattle.qtt_code.specs.Machine.{Frame, State, Did, moved, onward, left_with, in_frame, pushes, makes, taken, begin, suspended, enters, calls, forces, arity, as_literal, literals, truth, answers, applies, computes, does, instruction, Reaches}
use Rattle.qtt_lower.specs.Lowering.{given, given_width, variable, code, block}
use Rattle.qtt_lower.specs.Lowerable.{Lowerable, IsBlock, IsLowered}
use Rattle.qtt_lower.specs.Represents.{flat_value, flat_values, flats, count, onto, variables, depth, Pending, plug, Stands, Next, Waits, Continues, Ends, Represents}
use Rattle.qtt_lower.proofs.Values.{append-none, flats-append, flats-listed, flats-size, taken-pushed, in-first, in-second}
use Rattle.qtt_lower.proofs.Parts.{stands-whole}

abbrev pub state : Frame → List Frame → State
state f fs = record { frame = f; waiting = fs }

-- where a frame stands once it pushed the value of a term that ends at a place
abbrev pub Lands : Position → List Instr → ℕ → ℕ → Type 0
Lands Position.inner is end q = q ≡ end
Lands Position.tail is end q = slice_get is q ≡ Some Instr.return

-- what pushes a value is followed by the end of its term
pub given-lands : (o : Position) (f : Frame) (i : Instr) (end : ℕ) → end ≡ f.place + given_width o →
    Stands f.code f.place (given o i) → Lands o f.code end (suc f.place)
given-lands Position.inner f i end e h = omega (arith, e)
given-lands Position.tail f i end e h = h.1.0

pub given-first : (o : Position) (f : Frame) (i : Instr) → Stands f.code f.place (given o i) → Next f i
given-first Position.inner f i h = h.0
given-first Position.tail f i h = h.0

-- ---- runs
pub chained : {C : Program} {n m : ℕ} {s t r : State} → Reaches C n s t → n ≡ 0 → Reaches C m t r → Reaches C m s r
chained Reaches.here z w = w
chained (Reaches.goes h x) z w = Reaches.goes h (chained x z w)
chained (Reaches.ticks h x) z w = absurd (omega (arith, z))

pub one : {C : Program} {s t : State} → instruction C s ≡ Did.goes t → Reaches C 0 s t
one h = Reaches.goes h Reaches.here

pub tick : {C : Program} {s t : State} → instruction C s ≡ Did.ticks t → Reaches C 1 s t
tick h = Reaches.ticks h Reaches.here

-- ---- tests
both-true : (a b : Bool) → (a && b) ≡ true → (a ≡ true) × (b ≡ true)
both-true true true h = (refl, refl)
both-true true false h = absurd (cc h)
both-true false b h = absurd (cc h)

module _ (C : Program) where
  -- ---- what is pushed
  pub pushed-next : (f : Frame) (fs : List Frame) (i : Instr) (v : Value) → Next f i →
      does C (Some i) (state f fs) ≡ pushes (Some v) (state f fs) →
      instruction C (state f fs) ≡ Did.goes (state (left_with (v ∷ f.pushed) (onward f)) fs)
  pushed-next f fs i v n h = ap (λ j. does C j (state f fs)) n ∙ h

  -- so many values become one
  pub made-next : (f : Frame) (fs : List Frame) (i : Instr) (made : Values → Value) (n : ℕ) (vs : Values)
      (below : List Value) → Next f i →
      does C (Some i) (state f fs) ≡ makes made (taken n Values.none f.pushed) (state f fs) →
      f.pushed ≡ onto vs below → n ≡ count vs →
      instruction C (state f fs) ≡ Did.goes (state (left_with (made vs ∷ below) (onward f)) fs)
  made-next f fs i made n vs below h d p k =
      ap (λ j. does C j (state f fs)) h ∙ d
      ∙ ap (λ l. makes made (taken n Values.none l) (state f fs)) p
      ∙ ap (λ t. makes made t (state f fs)) (taken-pushed vs n below k)

  -- a variable is pushed from where it stands
  pub variable-pushes : (f : Frame) (fs : List Frame) (l : ℕ) (v : Value) → slice_get (variables f) l ≡ Some v →
      does C (Some (variable (length f.captured) l)) (state f fs) ≡ pushes (Some v) (state f fs)
  variable-pushes f fs l v h = elim (cases_lt l (length f.captured)) [
    | inl p ↦
        ap (λ b. does C (Some (cond b (Instr.captured l) (Instr.local (l - length f.captured)))) (state f fs))
        (lt-ltb l (length f.captured) p)
        ∙ ap (λ o. pushes o (state f fs)) (sym (in-first f.captured f.locals l p) ∙ h)
    | inr p ↦
        ap (λ b. does C (Some (cond b (Instr.captured l) (Instr.local (l - length f.captured)))) (state f fs))
        (le-ltb l (length f.captured) p)
        ∙ ap (λ o. pushes o (state f fs)) (sym (in-second f.captured f.locals l p) ∙ h)
  ]

-- ---- primitives
literals-same : (vs : Values) → flat_step.literals (flat_values vs) ≡ literals vs
literals-same Values.none = refl
literals-same (v ▹ vs) =
    ap (λ o. chain o (λ l. chain (flat_step.literals (flat_values vs)) (λ ls. Some (l ∷ ls)))) (literal-same v)
    ∙ ap (λ o. chain (as_literal v) (λ l. chain o (λ ls. Some (l ∷ ls)))) (literals-same vs)
  where
    literal-same : (v : Value) → flat_step.as_lit (flat_value v) ≡ as_literal v
    literal-same (Value.literal l) = refl
    literal-same (Value.con c vs) = refl
    literal-same (Value.closure b vs) = refl
    literal-same (Value.action a vs) = refl
    literal-same (Value.tape n) = refl
    literal-same Value.type = refl

abbrev HasArity : ℕ → List Lit → PrimAnswer → Type 0
HasArity n ls a = (length ls ≡ n) ⊎ (a ≡ answer.IllTyped)

of-numbers : (g : _) (ls : List Lit) → HasArity 2 ls (of_numbers g ls)
of-numbers g [] = inr refl
of-numbers g (lit.Int x ∷ []) = inr refl
of-numbers g (lit.Text x ∷ ls) = inr refl
of-numbers g (lit.Int x ∷ lit.Int y ∷ []) = inl refl
of-numbers g (lit.Int x ∷ lit.Text y ∷ ls) = inr refl
of-numbers g (lit.Int x ∷ lit.Int y ∷ z ∷ ls) = inr refl

of-texts : (g : _) (ls : List Lit) → HasArity 2 ls (of_texts g ls)
of-texts g [] = inr refl
of-texts g (lit.Text x ∷ []) = inr refl
of-texts g (lit.Int x ∷ ls) = inr refl
of-texts g (lit.Text x ∷ lit.Text y ∷ []) = inl refl
of-texts g (lit.Text x ∷ lit.Int y ∷ ls) = inr refl
of-texts g (lit.Text x ∷ lit.Text y ∷ z ∷ ls) = inr refl

of-number : (g : _) (ls : List Lit) → HasArity 1 ls (of_number g ls)
of-number g [] = inr refl
of-number g (lit.Text x ∷ ls) = inr refl
of-number g (lit.Int x ∷ []) = inl refl
of-number g (lit.Int x ∷ y ∷ ls) = inr refl

has-arity : (p : Primitive) (ls : List Lit) → HasArity (arity p) ls (apply p ls)
has-arity prim.AddInt ls = of-numbers _ ls
has-arity prim.SubInt ls = of-numbers _ ls
has-arity prim.MulInt ls = of-numbers _ ls
has-arity prim.DivInt ls = of-numbers _ ls
has-arity prim.ModInt ls = of-numbers _ ls
has-arity prim.EqInt ls = of-numbers _ ls
has-arity prim.LtInt ls = of-numbers _ ls
has-arity prim.AppendString ls = of-texts _ ls
has-arity prim.EqString ls = of-texts _ ls
has-arity prim.ShowInt ls = of-number _ ls

abbrev Counts : Option (List Lit) → ℕ → Type 0
Counts None n = Unit {0}
Counts (Some ls) n = length ls ≡ n

one-more : (o : Option Lit) (r : Option (List Lit)) (n : ℕ) → Counts r n →
    Counts (chain o (λ l. chain r (λ ls. Some (l ∷ ls)))) (suc n)
one-more None r n h = tt
one-more (Some l) None n h = tt
one-more (Some l) (Some ls) n h = ap suc h

literals-count : (vs : Values) → Counts (literals vs) (count vs)
literals-count Values.none = refl
literals-count (v ▹ vs) = one-more (as_literal v) (literals vs) (count vs) (literals-count vs)

-- ---- what a state does to compute a term within pending operators, by what the term does next
module _ (e : GlobalId → ℕ) (C : Program) where
  abbrev pub Computes : Position → Frame → ℕ → List Frame → List Pending → State → FlatTerm → Outcome FlatTerm → Type 0
  Computes o f end fs ps s t Outcome.value =
      (v : Value) × (q : ℕ) × (t ≡ flat_value v) × Lands o f.code end q × Reaches C 0 s
      (state (left_with (v ∷ f.pushed) (moved q f)) fs)
  Computes o f end fs ps s t (Outcome.step u) = (r : State) × Reaches C 1 s r × Represents e (plug ps u) r
  Computes o f end fs ps s t (Outcome.trap k) = (r : State) × Reaches C 0 s r × (instruction C r ≡ Did.traps k)
  Computes o f end fs ps s t Outcome.stuck = Unit {0}

  pub landed : (o : Position) (g : Frame) (end q : ℕ) {fs : List Frame} {ps : List Pending} →
      Lands o g.code end q → Ends e o (moved end g) fs ps →
      Continues e (moved q g) fs ps
  landed Position.inner g end q {fs = fs} {ps = ps} l (Ends.goes_on c) =
      subst (λ p. Continues e (moved p g) fs ps) (sym l) c
  landed Position.tail g end q l (Ends.gives_back p w) = Continues.returns l p w

  -- ---- a primitive
  module _ (o : Position) (f : Frame) (end : ℕ) (fs : List Frame) (ps : List Pending) (below : List Value)
      (t : FlatTerm) where
    answer-acts : (a : PrimAnswer) → instruction C (state f fs) ≡ answers a below (state f fs) →
        Continues e (onward (left_with below f)) fs ps →
        Computes o (left_with below f) end fs ps (state f fs) t (flat_step.answers a)
    answer-acts (answer.Value l) h c =
        (state (left_with (Value.literal l ∷ below) (onward f)) fs, tick h, Represents.has (Value.literal l) c)
    answer-acts (answer.Truth true) h c =
        (state (left_with (truth true ∷ below) (onward f)) fs, tick h, Represents.has (truth true) c)
    answer-acts (answer.Truth false) h c =
        (state (left_with (truth false ∷ below) (onward f)) fs, tick h, Represents.has (truth false) c)
    answer-acts answer.DivisionByZero h c = (state f fs, Reaches.here, h)
    answer-acts answer.IllTyped h c = tt

    literals-act : (p : Primitive) (vs : Values) (r : Option (List Lit)) → literals vs ≡ r → Counts r (count vs) →
        Next f (Instr.prim p) → f.pushed ≡ onto vs below →
        Continues e (onward (left_with below f)) fs ps →
        Computes o (left_with below f) end fs ps (state f fs) t (flat_step.primitive p r)
    literals-act p vs None h k n d c = tt
    literals-act p vs (Some ls) h k n d c = elim (has-arity p ls) [
      | inl a ↦
          answer-acts (apply p ls)
          (ap (λ j. does C j (state f fs)) n
          ∙ ap (λ l. computes p (taken (arity p) Values.none l) (state f fs)) d
          ∙ ap (λ x. computes p x (state f fs)) (taken-pushed vs (arity p) below (sym a ∙ k))
          ∙ ap (λ x. applies p x below (state f fs)) h)
          c
      | inr a ↦ subst (λ x. Computes o (left_with below f) end fs ps (state f fs) t (flat_step.answers x)) (sym a) tt
    ]

    pub primitive-acts : (p : Primitive) (vs : Values) → Next f (Instr.prim p) → f.pushed ≡ onto vs below →
        Continues e (onward (left_with below f)) fs ps →
        Computes o (left_with below f) end fs ps (state f fs) t
        (flat_step.primitive p (flat_step.literals (flat_values vs ◂◂ ∅)))
    primitive-acts p vs n d c =
        subst (λ ts. Computes o (left_with below f) end fs ps (state f fs) t
        (flat_step.primitive p (flat_step.literals ts))) (sym (append-none (flat_values vs)))
        (subst (λ r. Computes o (left_with below f) end fs ps (state f fs) t (flat_step.primitive p r))
        (sym (literals-same vs))
        (literals-act p vs (literals vs) refl (literals-count vs) n d c))

-- ---- calls
module _ (e : GlobalId → ℕ) (P : flat.Program) (D : Bodies Closure) (C : Program) (L : IsLowered e P D C) where
  module _ (o : Position) (f : Frame) (end : ℕ) (fs gs : List Frame) (ps : List Pending) (s : State)
      (t : FlatTerm) where
    -- a block that begins represents its function's body
    begins : (n : ℕ) (F : Function) (ws : Values) (args : List Value) (xs : FlatTerms) → IsBlock e C n F →
        xs ≡ flats (listed ws ++ args) →
        F.captured ≡ length (listed ws) → F.takes ≡ length args →
        ((B : Block) → slice_get C n ≡ Some B → instruction C s ≡ Did.ticks (state (begin B (listed ws) args) gs))
        → Waits e gs ps →
        Computes e C o f end fs ps s t (Outcome.step (sub binders (push xs Tree.var) F.body))
    begins n F ws args xs (d, b, l) x c k h w =
        let g : Frame = begin (block e d F) (listed ws) args in
        let m : F.captured + F.takes ≡ depth g = ap₂ ◌+◌ c k ∙ sym (length-append (listed ws) args) in (
          state g gs,
          tick (h (block e d F) b),
          subst (λ ts. Represents e (plug ps (sub binders (push ts Tree.var) F.body)) (state g gs)) (sym x)
              (Represents.computes Position.tail F.body (subst (λ j. Lowerable j F.body) m l)
              (subst (λ j. Stands g.code 0 (code e j Position.tail (depth g) 0 F.body)) c
              (subst (λ j. Stands g.code 0 (code e F.captured Position.tail j 0 F.body)) m (stands-whole g.code)))
              (Ends.gives_back refl w)),
        )

    -- a function that is found is entered where it takes so many arguments and captured so many values
    pub enters-function : (n : ℕ) (m : Option Function) (ws : Values) (args : List Value) (xs : FlatTerms) →
        P n ≡ m → xs ≡ flats (listed ws ++ args) →
        ((B : Block) → slice_get C n ≡ Some B → instruction C s ≡ Did.ticks (state (begin B (listed ws) args) gs))
        → Waits e gs ps →
        Computes e C o f end fs ps s t (contracts_to (chain m (flat.enter (length args) xs)))
    enters-function n None ws args xs q x h w = tt
    enters-function n (Some F) ws args xs q x h w =
        tested (eqb (length args) F.takes && eqb (size xs) (F.captured + length args)) refl
      where
        tested : (b : Bool) → (eqb (length args) F.takes && eqb (size xs) (F.captured + length args)) ≡ b →
            Computes e C o f end fs ps s t (contracts_to (cond b (Some (sub binders (push xs Tree.var) F.body)) None))
        tested false z = tt
        tested true z =
            let y = both-true (eqb (length args) F.takes) (eqb (size xs) (F.captured + length args)) z in
            let k = eqb-true (length args) F.takes y.0 in
            let c = eqb-true (size xs) (F.captured + length args) y.1 in
            let v = ap size x ∙ flats-size (listed ws ++ args) ∙ length-append (listed ws) args in
            begins n F ws args xs (L.functions n F q) x (omega (arith, c, v)) (sym k) h w

    -- a definition with a body is entered
    pub enters-definition : (d : GlobalId) (m : Option FlatTerm) → D d ≡ m →
        ((B : Block) → slice_get C (e d) ≡ Some B → instruction C s ≡ Did.ticks (state (begin B [] []) gs)) →
        Waits e gs ps →
        Computes e C o f end fs ps s t (contracts_to m)
    enters-definition d None q h w = tt
    enters-definition d (Some u) q h w =
        subst (λ x. Computes e C o f end fs ps s t (Outcome.step x)) (sub-var binders u)
        (begins (e d) (record { captured = 0; takes = 0; body = u }) Values.none [] ∅
        (L.definitions d u q) refl refl refl h w)

  -- ---- a frame waits behind its call
  pub suspends : (o : Position) (f : Frame) (end : ℕ) {fs : List Frame} {ps : List Pending} → end ≡ f.place + 1 →
      Ends e o (moved end f) fs ps → Waits e (suspended o f fs) ps
  suspends Position.inner f end {fs = fs} {ps = ps} h (Ends.goes_on c) =
      Waits.frame (subst (λ q. Continues e (moved q f) fs ps) (let z : end ≡ suc f.place = omega (arith, h) in z) c)
  suspends Position.tail f end h (Ends.gives_back p w) = w

  module _ (o : Position) (f : Frame) (end : ℕ) (fs : List Frame) (ps : List Pending) (below : List Value)
      (t : FlatTerm) where
    abbrev Does : Outcome FlatTerm → Type 0
    Does r = Computes e C o (left_with below f) end fs ps (state f fs) t r

    pub call-acts : (vs : Values) → Next f (Instr.call o) → f.pushed ≡ onto vs below →
        Waits e (suspended o (left_with below f) fs) ps →
        Does (contracts_to (beta (closures P) (flat_values vs ◂◂ ∅)))
    call-acts Values.none n d w = tt
    call-acts (Value.literal l ▹ vs) n d w = tt
    call-acts (Value.con c us ▹ vs) n d w = tt
    call-acts (Value.action a us ▹ vs) n d w = tt
    call-acts (Value.tape i ▹ vs) n d w = tt
    call-acts (Value.type ▹ vs) n d w = tt
    call-acts (Value.closure b us ▹ Values.none) n d w = tt
    call-acts (Value.closure b us ▹ a ▹ c ▹ vs) n d w = tt
    call-acts (Value.closure b us ▹ a ▹ Values.none) n d w =
        enters-function o (left_with below f) end fs (suspended o (left_with below f) fs) ps (state f fs) t b
        (P b) us (a ∷ []) (flat_values us ◂◂ flat_value a ◂ ∅) refl
        (sym (flats-append (listed us) (a ∷ []) ∙ ap (λ ts. ts ◂◂ flat_value a ◂ ∅) (flats-listed us)))
        (λ B h. ap (λ j. does C j (state f fs)) n ∙ ap (λ l. calls C o l (state f fs)) d
        ∙ ap (λ m. enters o m (listed us) (a ∷ []) (in_frame (left_with below f) (state f fs))) h)
        w

    pub force-acts : (vs : Values) → Next f (Instr.force o) → f.pushed ≡ onto vs below →
        Waits e (suspended o (left_with below f) fs) ps →
        Does (contracts_to (forcing (closures P) (flat_values vs ◂◂ ∅)))
    force-acts Values.none n d w = tt
    force-acts (Value.literal l ▹ vs) n d w = tt
    force-acts (Value.con c us ▹ vs) n d w = tt
    force-acts (Value.action a us ▹ vs) n d w = tt
    force-acts (Value.tape i ▹ vs) n d w = tt
    force-acts (Value.type ▹ vs) n d w = tt
    force-acts (Value.closure b us ▹ a ▹ vs) n d w = tt
    force-acts (Value.closure b us ▹ Values.none) n d w =
        enters-function o (left_with below f) end fs (suspended o (left_with below f) fs) ps (state f fs) t b
        (P b) us [] (flat_values us) refl
        (sym (flats-append (listed us) [] ∙ append-none (flats (listed us)) ∙ flats-listed us))
        (λ B h. ap (λ j. does C j (state f fs)) n ∙ ap (λ l. forces C o l (state f fs)) d
        ∙ ap (λ m. enters o m (listed us) [] (in_frame (left_with below f) (state f fs))) h)
        w

    pub definition-acts : (d : GlobalId) → Next f (Instr.enter o (e d)) → f.pushed ≡ below →
        Waits e (suspended o f fs) ps → Does (contracts_to (D d))
    definition-acts d n p w =
        enters-definition o (left_with below f) end fs (suspended o f fs) ps (state f fs) t d (D d) refl
        (λ B h. ap (λ j. does C j (state f fs)) n ∙ ap (λ m. enters o m [] [] (state f fs)) h)
        w
