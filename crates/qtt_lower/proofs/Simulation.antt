-- The code of a lowered program takes the steps of the term that it represents.
use Rattle.std.proofs.Common.{◌≡◌, ℕ, zero, suc, ◌+◌, ◌-◌, ◌≤◌, List, [], ◌∷◌, ◌++◌, length, inl, inr, Some, refl, sym, ◌∙◌, ap, subst, arith, zero-add}
use Rattle.std.proofs.lemmas.Bool.{cases_lt}
use Rattle.qtt_base.specs.declared.place.GlobalId.{GlobalId}
use Rattle.qtt_prims.specs.declared.lit.Lit.{Lit}
use Rattle.qtt_erase.specs.Binding.{Tree, ∅, ◌◂◌, ◌◂◂◌, size, subs}
use Rattle.qtt_erase.specs.Operator.{Operator}
use Rattle.qtt_erase.specs.Step.{Bodies, Outcome}
use Rattle.qtt_erase.proofs.Bindings.{subs-size}
use Rattle.qtt_closure.specs.Flat as flat
use Rattle.qtt_closure.specs.Flat.{Closure, FlatTerm, FlatTerms, binders, flat_step}
use Rattle.qtt_code.specs.Value.{Value, Values, ◌▹◌}
use Rattle.qtt_code.specs.Instruction.{Position, Instr, Program}
use Rattle.qtt_code.specs.Machine.{Frame, State, moved, onward, left_with, pushes, does, Reaches}
use Rattle.qtt_lower.specs.Lowering.{given, given_width, branches, branch_count, variable, width, widths, branch_widths, operands}
use Rattle.qtt_lower.specs.Lowerable.{AreVariables, Lowerable, AllLowerable, IsLowered}
use Rattle.qtt_lower.specs.Represents.{flat_value, flat_values, count, onto, variables, depth, filling, filled, Pending, front, pending, Stands, IsComputed, rest_end, code_in, IsComputing, Continues, Ends}
use Rattle.qtt_lower.proofs.Values.{◌▹▹◌, append-none, values-size, found}
use Rattle.qtt_lower.proofs.Parts.{stands-left, stands-right, operands-length, lasts, parts-end, filled-parts, operator-binders}
use Rattle.qtt_lower.proofs.Pending.{is-pending, acts-itself, steps-inside, traps-inside, stuck-inside}
use Rattle.qtt_lower.proofs.Acting.{state, given-lands, given-first, chained, one, pushed-next, made-next, variable-pushes, Computes, definition-acts, suspends}
use Rattle.qtt_lower.proofs.Computing.{value-first, from-later, during, with-value, first-stands, begin-operator, short-is-stuck, gives, acts}

module _ (e : GlobalId → ℕ) (P : flat.Program) (D : Bodies Closure) (C : Program) (L : IsLowered e P D C) where
  -- what is so after instructions without a tick is so before them
  computes-before : (o : Position) (f : Frame) (end : ℕ) (fs : List Frame) (ps : List Pending) (s r : State)
      (t : FlatTerm) (x : Outcome FlatTerm) → Reaches C 0 s r →
      Computes e C o f end fs ps r t x → Computes e C o f end fs ps s t x
  computes-before o f end fs ps s r t Outcome.value w (v, q, h, l, y) = (v, q, h, l, chained w refl y)
  computes-before o f end fs ps s r t (Outcome.step u) w (y, z, h) = (y, chained w refl z, h)
  computes-before o f end fs ps s r t (Outcome.trap k) w (y, z, h) = (y, chained w refl z, h)
  computes-before o f end fs ps s r t Outcome.stuck w h = tt

  -- ---- the captured variables of a closure are pushed
  pub pushes-variables : (f : Frame) (fs : List Frame) (ts : FlatTerms) → AreVariables ts →
      AllLowerable [] (depth f) ts →
      Stands f.code f.place (operands e (length f.captured) (depth f) f.place 0 ts) →
      (ws : Values) × (subs binders [] (filling f) ts ≡ flat_values ws) × (count ws ≡ size ts)
      × Reaches C 0 (state f fs) (state (left_with (onto ws f.pushed) (moved (f.place + widths 0 ts) f)) fs)
  pushes-variables f fs ∅ a l s = (
    Values.none,
    refl,
    refl,
    subst (λ p. Reaches C 0 (state f fs) (state (moved p f) fs))
        (let z : f.place ≡ f.place + 0 = omega arith in z) Reaches.here,
  )
  pushes-variables f fs (Tree.node F us ◂ ts) a l s = absurd a
  pushes-variables f fs (Tree.var i ◂ ts) a l s =
      let w = found (variables f) Tree.var i (omega (arith, l.0)) in
      let g : Frame = left_with (w.value ∷ f.pushed) (onward f) in
      let z : f.place + 1 ≡ suc f.place = omega arith in
      let r = pushes-variables g fs ts a l.1
      (subst (λ p. Stands f.code p (operands e (length f.captured) (depth f) p 0 ts)) z
      (subst (λ p. Stands f.code p (operands e (length f.captured) (depth f) (f.place + 1) 0 ts))
      (sym z) s.1)) in (
        w.value ▹ r.0,
        ap (λ t. t ◂ subs binders [] (filling f) ts) w.put ∙ ap (λ us. flat_value w.value ◂ us) r.1,
        ap suc r.2,
        Reaches.goes (pushed-next C f fs (variable (length f.captured) (depth f - suc i)) w.value s.0
            (variable-pushes C f fs (depth f - suc i) w.value w.stands))
            (subst (λ p. Reaches C 0 (state g fs) (state (left_with (onto r.0 (w.value ∷ f.pushed)) (moved p f)) fs))
            (let y : suc f.place + widths 0 ts ≡ f.place + (1 + widths 0 ts) = omega arith in y) r.3),
      )

  -- ---- an operator with its first component under computation
  module _ (o : Position) (f : Frame) (fs : List Frame) (ps : List Pending) (F : Operator Closure)
      (ts : FlatTerms) (vs : Values) (below : List Value) (t : FlatTerm) (us : FlatTerms) where
    abbrev inside : FlatTerm → FlatTerm
    inside u = Tree.node F ((front f F ts ◂◂ flat_values vs) ◂◂ u ◂ subs binders [] (filling f) us)

    abbrev end : ℕ
    end = rest_end o f.place F ts (t ◂ us)

    -- what the whole does, by what the component does; where that is a value, by what the whole does behind it
    pub around : IsComputing e f o F ts vs 0 (t ◂ us) below → (x : Outcome FlatTerm) → flat_step P D (filled f t) ≡ x →
        Computes e C Position.inner f (f.place + width Position.inner t) fs (pending f F ts vs us ∷ ps)
        (state f fs) (filled f t) x →
        ((v : Value) → let g : Frame = moved (f.place + width Position.inner t) f in
        let n : FlatTerm = Tree.node F
        ((front f F ts ◂◂ flat_values (vs ▹▹ v ▹ Values.none)) ◂◂ subs binders [] (filling f) us) in
        Computes e C o (left_with below f) (rest_end o g.place F ts us) fs ps
        (state (left_with (v ∷ f.pushed) g) fs) n (flat_step P D n)) →
        Computes e C o (left_with below f) end fs ps (state f fs) (inside (filled f t))
        (flat_step P D (inside (filled f t)))
    around i (Outcome.step u) h (r, w, y) k =
        subst (λ x. Computes e C o (left_with below f) end fs ps (state f fs) (inside (filled f t)) x)
        (sym (steps-inside P D (pending f F ts vs us) (is-pending e f o F ts vs 0 (t ◂ us) us below i)
        (filled f t) u h)) (r, w, y)
    around i (Outcome.trap c) h (r, w, y) k =
        subst (λ x. Computes e C o (left_with below f) end fs ps (state f fs) (inside (filled f t)) x)
        (sym (traps-inside P D (pending f F ts vs us) (is-pending e f o F ts vs 0 (t ◂ us) us below i)
        (filled f t) c h)) (r, w, y)
    around i Outcome.stuck h y k =
        subst (λ x. Computes e C o (left_with below f) end fs ps (state f fs) (inside (filled f t)) x)
        (sym (stuck-inside P D (pending f F ts vs us) (is-pending e f o F ts vs 0 (t ◂ us) us below i)
        (filled f t) h)) tt
    around i Outcome.value h (v, q, put, at, w) k =
        let g : Frame = moved (f.place + width Position.inner t) f in
        let n : FlatTerm = Tree.node F
        ((front f F ts ◂◂ flat_values (vs ▹▹ v ▹ Values.none)) ◂◂ subs binders [] (filling f) us) in
        let same : n ≡ inside (filled f t) =
        ap (Tree.node F) (value-first (front f F ts) vs v (subs binders [] (filling f) us)) ∙ ap inside (sym put) in
        let r : Reaches C 0 (state f fs) (state (left_with (v ∷ f.pushed) g) fs) =
        subst (λ p. Reaches C 0 (state f fs) (state (left_with (v ∷ f.pushed) (moved p f)) fs)) at w in
        subst (λ x. Computes e C o (left_with below f) end fs ps (state f fs) x (flat_step P D x)) same
        (computes-before o (left_with below f) end fs ps (state f fs) (state (left_with (v ∷ f.pushed) g) fs) n
        (flat_step P D n) r
        (subst (λ p. Computes e C o (left_with below f) (p + branch_widths o (branches F) ts) fs ps
        (state (left_with (v ∷ f.pushed) g) fs) n (flat_step P D n))
        (sym (from-later e o f.place F t us)) (k v)))

  -- ---- an operator with all its components
  whole : (o : Position) (f : Frame) (fs : List Frame) (ps : List Pending) (F : Operator Closure) (ts : FlatTerms) →
      Computes e C o f (rest_end o f.place F ts (lasts (branch_count F) ts)) fs ps (state f fs)
      (Tree.node F ((front f F ts ◂◂ ∅) ◂◂ subs binders [] (filling f) (lasts (branch_count F) ts)))
      (flat_step P D (Tree.node F ((front f F ts ◂◂ ∅) ◂◂ subs binders [] (filling f) (lasts (branch_count F) ts)))) →
      Computes e C o f (f.place + width o (Tree.node F ts)) fs ps (state f fs) (filled f (Tree.node F ts))
      (flat_step P D (filled f (Tree.node F ts)))
  whole o f fs ps F ts h =
      let n : FlatTerm = Tree.node F ((front f F ts ◂◂ ∅) ◂◂ subs binders [] (filling f) (lasts (branch_count F) ts)) in
      let same : n ≡ filled f (Tree.node F ts) =
      ap (Tree.node F)
      (ap (λ xs. xs ◂◂ subs binders [] (filling f) (lasts (branch_count F) ts)) (append-none (front f F ts))
      ∙ sym (filled-parts (branches F) (filling f) ts) ∙ ap (λ ns. subs binders ns (filling f) ts)
      (sym (operator-binders F))) in
      subst (λ x. Computes e C o f (f.place + width o (Tree.node F ts)) fs ps (state f fs) x (flat_step P D x)) same
      (subst (λ p. Computes e C o f p fs ps (state f fs) n (flat_step P D n)) (sym (parts-end o f.place F ts)) h)

  -- where there are fewer components than branches it is stuck
  enough : (o : Position) (f : Frame) (fs : List Frame) (ps : List Pending) (F : Operator Closure)
      (ts : FlatTerms) → IsComputed F →
      (branch_count F ≤ size ts →
      Computes e C o f (f.place + width o (Tree.node F ts)) fs ps (state f fs) (filled f (Tree.node F ts))
      (flat_step P D (filled f (Tree.node F ts)))) →
      Computes e C o f (f.place + width o (Tree.node F ts)) fs ps (state f fs) (filled f (Tree.node F ts))
      (flat_step P D (filled f (Tree.node F ts)))
  enough o f fs ps F ts h k = elim (cases_lt (size ts) (branch_count F)) [
    | inl n ↦
        subst (λ x. Computes e C o f (f.place + width o (Tree.node F ts)) fs ps (state f fs)
        (filled f (Tree.node F ts)) x)
        (sym (short-is-stuck P D F (subs binders (binders F) (filling f) ts) h
        (let z = subs-size binders ts (binders F) (filling f) in omega (arith, n, z)))) tt
    | inr n ↦ k n
  ]

  -- ---- a term, and the components of an operator behind the first j
  operator-ends : (o : Position) (f : Frame) (fs : List Frame) (ps : List Pending) (F : Operator Closure)
      (ts : FlatTerms) →
      Ends e o (moved (f.place + width o (Tree.node F ts)) f) fs ps →
      Ends e o (moved (rest_end o f.place F ts (lasts (branch_count F) ts)) f) fs ps
  operator-ends o f fs ps F ts x = subst (λ p. Ends e o (moved p f) fs ps) (parts-end o f.place F ts) x

  abbrev TermComputes : FlatTerm → Type 0
  TermComputes u =
      (o : Position) (f : Frame) (fs : List Frame) (ps : List Pending) → Lowerable (depth f) u →
      Stands f.code f.place (code_in e f o u) →
      Ends e o (moved (f.place + width o u) f) fs ps →
      Computes e C o f (f.place + width o u) fs ps (state f fs) (filled f u) (flat_step P D (filled f u))

  abbrev ComponentsCompute : ℕ → FlatTerms → Type 0
  ComponentsCompute j us =
      (o : Position) (F : Operator Closure) (ts : FlatTerms) (vs : Values) (f : Frame) (fs : List Frame)
      (ps : List Pending) (below : List Value) →
      IsComputing e f o F ts vs 0 (lasts j us) below →
      Ends e o (moved (rest_end o f.place F ts (lasts j us)) (left_with below f)) fs ps →
      let n : FlatTerm = Tree.node F ((front f F ts ◂◂ flat_values vs) ◂◂ subs binders [] (filling f) (lasts j us)) in
      Computes e C o (left_with below f) (rest_end o f.place F ts (lasts j us)) fs ps (state f fs) n (flat_step P D n)

  none-left : ComponentsCompute 0 ∅
  none-left o F ts vs f fs ps below i x =
      subst (λ y. Computes e C o (left_with below f) (rest_end o f.place F ts ∅) fs ps (state f fs)
      (Tree.node F ((front f F ts ◂◂ flat_values vs) ◂◂ ∅)) y)
      (sym (acts-itself P D (pending f F ts vs ∅) (is-pending e f o F ts vs 0 ∅ ∅ below i)))
      (acts e P D C L o f fs ps ts vs below F i x)

  first-left : (t : FlatTerm) (us : FlatTerms) → TermComputes t → ComponentsCompute 0 us → ComponentsCompute 0 (t ◂ us)
  first-left t us h k o F ts vs f fs ps below i x =
      let g : Frame = moved (f.place + width Position.inner t) f in
      let j = during e f o F ts vs t us below i in
      let y : Ends e o (moved (rest_end o g.place F ts us) (left_with below f)) fs ps =
      subst (λ p. Ends e o (moved (p + branch_widths o (branches F) ts) (left_with below f)) fs ps)
      (from-later e o f.place F t us) x in
      around o f fs ps F ts vs below t us i (flat_step P D (filled f t)) refl
      (h Position.inner f fs (pending f F ts vs us ∷ ps)
      (subst (λ n. Lowerable n t) (zero-add (depth f)) i.components_lowerable.0)
      (first-stands e f o F ts t us i.stands)
      (Ends.goes_on (Continues.component o F ts vs us below j y)))
      (λ v. k o F ts (vs ▹▹ v ▹ Values.none) (left_with (v ∷ f.pushed) g) fs ps below
      (with-value e g o F ts vs v us below j) y)

  operator-computes : (F : Operator Closure) (ts : FlatTerms) → IsComputed F →
      ComponentsCompute (branch_count F) ts → TermComputes (Tree.node F ts)
  operator-computes F ts h k o f fs ps l s x =
      enough o f fs ps F ts h (λ n. whole o f fs ps F ts
      (k o F ts Values.none f fs ps f.pushed (begin-operator e f o F ts h n l.1 s) (operator-ends o f fs ps F ts x)))

  -- what is a value, a definition or a trap
  variable-computes : (i : ℕ) → TermComputes (Tree.var i)
  variable-computes i o f fs ps l s x =
      let w = found (variables f) Tree.var i l in
      let i : Instr = variable (length f.captured) (depth f - suc i) in
      gives e P D C L o f (f.place + given_width o) fs ps (state f fs) _ w.value (suc f.place) w.put
      (given-lands o f i _ refl s)
      (one (pushed-next C f fs i w.value (given-first o f i s) (variable-pushes C f fs _ w.value w.stands)))

  constant-computes : (o : Position) (f : Frame) (fs : List Frame) (ps : List Pending) (i : Instr) (t : FlatTerm)
      (v : Value) (n : ℕ) → t ≡ flat_value v → n ≡ f.place + given_width o →
      does C (Some i) (state f fs) ≡ pushes (Some v) (state f fs) → Stands f.code f.place (given o i) →
      Computes e C o f n fs ps (state f fs) t (flat_step P D t)
  constant-computes o f fs ps i t v n h z d s =
      gives e P D C L o f n fs ps (state f fs) t v (suc f.place) h (given-lands o f i n z s)
      (one (pushed-next C f fs i v (given-first o f i s) d))

  closure-computes : (c : Closure) (ts : FlatTerms) → TermComputes (Tree.node (Operator.function c) ts)
  closure-computes c ts o f fs ps l s x =
      let i : Instr = Instr.closure c.number (size ts) in
      let ss = stands-left f.code f.place (operands e (length f.captured) (depth f) f.place 0 ts ++ given o i) [] s in
      let r = pushes-variables f fs ts l.0.1 l.1
      (stands-left f.code f.place (operands e (length f.captured) (depth f) f.place 0 ts) (given o i) ss) in
      let g : Frame = left_with (onto r.0 f.pushed) (moved (f.place + widths 0 ts) f) in
      let st : Stands g.code g.place (given o i) =
      stands-right f.code f.place (operands e (length f.captured) (depth f) f.place 0 ts) (given o i)
      (f.place + widths 0 ts)
      (ap (λ n. f.place + n) (sym (operands-length e (length f.captured) (depth f) f.place 0 ts))) ss in
      let same : filled f (Tree.node (Operator.function c) ts) ≡ flat_value (Value.closure c.number r.0) =
      ap (Tree.node (Operator.function c)) r.1
      ∙ ap (λ n. Tree.node (Operator.function (record { number = c.number; captured = n })) (flat_values r.0))
      (l.0.0 ∙ sym (values-size r.0 ∙ r.2)) in
      gives e P D C L o f (f.place + width o (Tree.node (Operator.function c) ts)) fs ps (state f fs)
      (filled f (Tree.node (Operator.function c) ts)) (Value.closure c.number r.0)
      (suc g.place) same
      (given-lands o (left_with f.pushed g) i (f.place + width o (Tree.node (Operator.function c) ts)) (omega arith) st)
      (chained r.3 refl (one (made-next C g fs i (Value.closure c.number) (size ts) r.0 f.pushed
      (given-first o g i st) refl refl (sym r.2))))

  definition-computes : (d : GlobalId) (ts : FlatTerms) → TermComputes (Tree.node (Operator.def d) ts)
  definition-computes d (t ◂ ts) o f fs ps l s x = absurd l.0
  definition-computes d ∅ o f fs ps l s x =
      definition-acts e P D C L o f (f.place + width o (Tree.node (Operator.def d) ∅)) fs ps f.pushed
      (Tree.node (Operator.def d) ∅) d s.0 refl
      (suspends e P D C L o f (f.place + width o (Tree.node (Operator.def d) ∅)) (omega arith) x)

  literal-computes : (l : Lit) (ts : FlatTerms) → TermComputes (Tree.node (Operator.lit l) ts)
  literal-computes l (t ◂ ts) o f fs ps h s x = absurd h.0
  literal-computes l ∅ o f fs ps h s x =
      constant-computes o f fs ps (Instr.literal l) (Tree.node (Operator.lit l) ∅) (Value.literal l) _ refl
      (omega arith) refl
      (stands-left f.code f.place (given o (Instr.literal l)) [] s)

  type-computes : (ts : FlatTerms) → TermComputes (Tree.node Operator.ty ts)
  type-computes (t ◂ ts) o f fs ps h s x = absurd h.0
  type-computes ∅ o f fs ps h s x =
      constant-computes o f fs ps Instr.type (Tree.node Operator.ty ∅) Value.type _ refl (omega arith) refl
      (stands-left f.code f.place (given o Instr.type) [] s)

  trap-computes : (ts : FlatTerms) → TermComputes (Tree.node Operator.trap ts)
  trap-computes (t ◂ ts) o f fs ps h s x = absurd h.0
  trap-computes ∅ o f fs ps h s x = (state f fs, Reaches.here, ap (λ i. does C i (state f fs)) s.0)

  mutual
    pub term-computes : (u : FlatTerm) → TermComputes u
    term-computes (Tree.var i) = variable-computes i
    term-computes (Tree.node (Operator.function c) ts) = closure-computes c ts
    term-computes (Tree.node Operator.app ts) = operator-computes Operator.app ts tt (components-compute 0 ts)
    term-computes (Tree.node Operator.force ts) = operator-computes Operator.force ts tt (components-compute 0 ts)
    term-computes (Tree.node (Operator.def d) ts) = definition-computes d ts
    term-computes (Tree.node (Operator.con c) ts) = operator-computes (Operator.con c) ts tt (components-compute 0 ts)
    term-computes (Tree.node (Operator.case ns) ts) =
        operator-computes (Operator.case ns) ts tt (components-compute (length ns) ts)
    term-computes (Tree.node (Operator.lit l) ts) = literal-computes l ts
    term-computes (Tree.node (Operator.prim p) ts) = operator-computes (Operator.prim p) ts tt (components-compute 0 ts)
    term-computes (Tree.node (Operator.act a) ts) = operator-computes (Operator.act a) ts tt (components-compute 0 ts)
    term-computes (Tree.node Operator.trap ts) = trap-computes ts
    term-computes (Tree.node Operator.ty ts) = type-computes ts
    term-computes (Tree.node (Operator.tape n) ts) = λ o f fs ps h s x. absurd h.0

    pub components-compute : (j : ℕ) (us : FlatTerms) → ComponentsCompute j us
    components-compute zero ∅ = none-left
    components-compute (suc j) ∅ = none-left
    components-compute zero (t ◂ us) = first-left t us (term-computes t) (components-compute 0 us)
    components-compute (suc j) (t ◂ us) = components-compute j us
