-- The code of a term computes it: it pushes its value where it is one, and else takes its next step or traps.
use Rattle.std.proofs.Common.{◌≡◌, ℕ, zero, suc, ◌+◌, ◌<◌, ◌≤◌, List, [], ◌∷◌, ◌++◌, length, Some, None, refl, sym, ◌∙◌, ap, subst, arith, append_assoc}
use Rattle.qtt_base.specs.declared.place.GlobalId.{GlobalId}
use Rattle.qtt_term.specs.Contraction.{chain}
use Rattle.qtt_erase.specs.Binding.{Tree, ∅, ◌◂◌, ◌◂◂◌, size}
use Rattle.qtt_erase.specs.Operator.{Operator}
use Rattle.qtt_erase.specs.Step.{Bodies, Outcome, as_con, scrutinee, behind, contracts_to, select, itself, finish, nexts}
use Rattle.qtt_closure.specs.Flat as flat
use Rattle.qtt_closure.specs.Flat.{Closure, FlatTerm, FlatTerms, closures, flat_step}
use Rattle.qtt_code.specs.Value.{Value, Values, ◌▹◌}
use Rattle.qtt_code.specs.Instruction.{Position, Instr, Program}
use Rattle.qtt_code.specs.Machine.{Frame, State, moved, left_with, makes, taken, does, Reaches}
use Rattle.qtt_lower.specs.Lowering.{given, given_width, own, branches, branch_count, width, branch_widths, branch_places, operands, code, branch_codes}
use Rattle.qtt_lower.specs.Lowerable.{AllLowerable, IsLowered}
use Rattle.qtt_lower.specs.Represents.{flat_value, flat_values, count, onto, depth, Pending, firsts, front, Stands, Next, IsComputed, rest_from, rest_end, code_in, rest_in, IsComputing, Ends}
use Rattle.qtt_lower.proofs.Values.{◌▹▹◌, append-none, append-assoc, values-append, count-append, onto-append, value-stays}
use Rattle.qtt_lower.proofs.Parts.{stands-left, stands-right, code-length, lasts, code-parts}
use Rattle.qtt_lower.proofs.Pending.{front-size}
use Rattle.qtt_lower.proofs.Acting.{state, Lands, given-lands, given-first, one, made-next, Computes, landed, primitive-acts, suspends, call-acts, force-acts}
use Rattle.qtt_lower.proofs.Branching.{case-acts}

-- ---- one more component is done
-- the last of the values so far, or the first of the components behind them
pub value-first : (bs : FlatTerms) (vs : Values) (v : Value) (xs : FlatTerms) →
    (bs ◂◂ flat_values (vs ▹▹ v ▹ Values.none)) ◂◂ xs ≡ (bs ◂◂ flat_values vs) ◂◂ flat_value v ◂ xs
value-first bs vs v xs =
    ap (λ ts. (bs ◂◂ ts) ◂◂ xs) (values-append vs (v ▹ Values.none)) ∙ ap (λ ts. ts ◂◂ xs)
    (sym (append-assoc bs (flat_values vs) (flat_value v ◂ ∅)))
    ∙ append-assoc (bs ◂◂ flat_values vs) (flat_value v ◂ ∅) xs

four-parts : (xs ys zs ws : List Instr) → xs ++ ys ++ zs ++ ws ≡ xs ++ (ys ++ zs ++ ws)
four-parts xs ys zs ws = append_assoc (xs ++ ys) zs ws ∙ append_assoc xs ys (zs ++ ws) ∙ ap (λ is. xs ++ is)
    (sym (append_assoc ys zs ws))

module _ (e : GlobalId → ℕ) where
  pub from-later : (o : Position) (p : ℕ) (F : Operator Closure) (t : FlatTerm) (us : FlatTerms) →
      rest_from o p F (t ◂ us) ≡ rest_from o (p + width Position.inner t) F us
  from-later o p F t us = omega arith

  -- the rest of an operator's code stands behind its first component
  rest-later : (f : Frame) (o : Position) (F : Operator Closure) (ts : FlatTerms) (t : FlatTerm)
      (us : FlatTerms) → Stands f.code f.place (rest_in e f o F ts (t ◂ us)) →
      Stands f.code (f.place + width Position.inner t)
      (rest_in e (moved (f.place + width Position.inner t) f) o F ts us)
  rest-later f o F ts t us h =
      let c : ℕ = length f.captured in
      let p : ℕ = f.place + width Position.inner t in
      let xs : List Instr = code e c Position.inner (depth f) f.place t in
      let ys : List Instr = operands e c (depth f) p 0 us in
      let q : ℕ = rest_from o f.place F (t ◂ us) in
      subst (λ r. Stands f.code p
      (ys ++ own e o F (size ts) (branch_places o r (branches F) ts) ++ branch_codes e c o (depth f) r
      (r + branch_widths o (branches F) ts) (branches F) ts))
      (from-later o f.place F t us)
      (stands-right f.code f.place xs
      (ys ++ own e o F (size ts) (branch_places o q (branches F) ts) ++ branch_codes e c o (depth f) q
      (q + branch_widths o (branches F) ts) (branches F) ts)
      p (ap (λ n. f.place + n) (sym (code-length e c Position.inner (depth f) f.place t)))
      (subst (Stands f.code f.place) (four-parts xs ys _ _) h))

  -- while the first component is computed
  pub during : (f : Frame) (o : Position) (F : Operator Closure) (ts : FlatTerms) (vs : Values) (t : FlatTerm)
      (us : FlatTerms) (below : List Value) →
      IsComputing e f o F ts vs 0 (t ◂ us) below →
      IsComputing e (moved (f.place + width Position.inner t) f) o F ts vs 1 us below
  during f o F ts vs t us below i = record {
    computed = i.computed;
    counted = let c = i.counted in omega (arith, c);
    branches_lowerable = i.branches_lowerable;
    components_lowerable = i.components_lowerable.1;
    pushed = i.pushed;
    stands = rest-later f o F ts t us i.stands;
  }

  -- and once it has a value
  pub with-value : (f : Frame) (o : Position) (F : Operator Closure) (ts : FlatTerms) (vs : Values) (v : Value)
      (us : FlatTerms) (below : List Value) →
      IsComputing e f o F ts vs 1 us below →
      IsComputing e (left_with (v ∷ f.pushed) f) o F ts (vs ▹▹ v ▹ Values.none) 0 us below
  with-value f o F ts vs v us below i = record {
    computed = i.computed;
    counted = let c = i.counted in let k = count-append vs v in omega (arith, c, k);
    branches_lowerable = i.branches_lowerable;
    components_lowerable = i.components_lowerable;
    pushed = ap (λ l. v ∷ l) i.pushed ∙ sym (onto-append vs v below);
    stands = i.stands;
  }

  pub first-stands : (f : Frame) (o : Position) (F : Operator Closure) (ts : FlatTerms) (t : FlatTerm)
      (us : FlatTerms) → Stands f.code f.place (rest_in e f o F ts (t ◂ us)) →
      Stands f.code f.place (code_in e f Position.inner t)
  first-stands f o F ts t us h =
      stands-left f.code f.place (code_in e f Position.inner t) _
      (stands-left f.code f.place _ _ (stands-left f.code f.place _ _ h))

  -- an operator begins
  pub begin-operator : (f : Frame) (o : Position) (F : Operator Closure) (ts : FlatTerms) → IsComputed F →
      branch_count F ≤ size ts → AllLowerable (branches F) (depth f) ts →
      Stands f.code f.place (code_in e f o (Tree.node F ts)) →
      IsComputing e f o F ts Values.none 0 (lasts (branch_count F) ts) f.pushed
  begin-operator f o F ts h n l s = record {
    computed = h;
    counted = lasts-size (branch_count F) ts n;
    branches_lowerable = firsts-lowerable (branches F) ts l;
    components_lowerable = lasts-lowerable (branches F) ts l;
    pushed = refl;
    stands = subst (Stands f.code f.place) (code-parts e (length f.captured) o (depth f) f.place F ts) s;
  }
    where
      lasts-size : (k : ℕ) (ts : FlatTerms) → k ≤ size ts → k + (0 + 0 + size (lasts k ts)) ≡ size ts
      lasts-size zero ts n = omega arith
      lasts-size (suc k) ∅ n = absurd (omega (arith, n))
      lasts-size (suc k) (t ◂ ts) n = let p = lasts-size k ts (omega (arith, n)) in omega (arith, p)

      firsts-lowerable : (ns : List ℕ) (ts : FlatTerms) → AllLowerable ns (depth f) ts →
          AllLowerable ns (depth f) (firsts (length ns) ts)
      firsts-lowerable [] ts l = tt
      firsts-lowerable (n ∷ ns) ∅ l = tt
      firsts-lowerable (n ∷ ns) (t ◂ ts) l = (l.0, firsts-lowerable ns ts l.1)

      lasts-lowerable : (ns : List ℕ) (ts : FlatTerms) → AllLowerable ns (depth f) ts →
          AllLowerable [] (depth f) (lasts (length ns) ts)
      lasts-lowerable [] ts l = l
      lasts-lowerable (n ∷ ns) ∅ l = tt
      lasts-lowerable (n ∷ ns) (t ◂ ts) l = lasts-lowerable ns ts l.1

-- a Case without a scrutinee is stuck
module _ (P : flat.Program) (D : Bodies Closure) where
  all-wait : (k : ℕ) (ts : FlatTerms) → size ts ≤ k → nexts (closures P) D k ts ≡ Outcome.value
  all-wait k ∅ h = refl
  all-wait zero (t ◂ ts) h = absurd (omega (arith, h))
  all-wait (suc k) (t ◂ ts) h = ap (behind t) (all-wait k ts (omega (arith, h)))

  no-scrutinee : (ns : List ℕ) (ts : FlatTerms) → size ts ≤ length ns → scrutinee ns ts ≡ None
  no-scrutinee [] ∅ h = refl
  no-scrutinee [] (t ◂ ts) h = absurd (omega (arith, h))
  no-scrutinee (n ∷ ns) ∅ h = refl
  no-scrutinee (n ∷ ns) (t ◂ ts) h = no-scrutinee ns ts (omega (arith, h))

  pub short-is-stuck : (F : Operator Closure) (ts : FlatTerms) → IsComputed F → size ts < branch_count F →
      flat_step P D (Tree.node F ts) ≡ Outcome.stuck
  short-is-stuck (Operator.function f) ts h n = absurd h
  short-is-stuck Operator.app ts h n = absurd (omega (arith, n))
  short-is-stuck Operator.force ts h n = absurd (omega (arith, n))
  short-is-stuck (Operator.def d) ts h n = absurd h
  short-is-stuck (Operator.con c) ts h n = absurd (omega (arith, n))
  short-is-stuck (Operator.case ns) ts h n =
      ap (finish (closures P) D (Operator.case ns) ts) (all-wait (length ns) ts (omega (arith, n)))
      ∙ ap (λ s. contracts_to (chain s (λ s. chain (as_con s) (select (closures P) ns ts))))
      (no-scrutinee ns ts (omega (arith, n)))
  short-is-stuck (Operator.lit l) ts h n = absurd h
  short-is-stuck (Operator.prim p) ts h n = absurd (omega (arith, n))
  short-is-stuck (Operator.act a) ts h n = absurd (omega (arith, n))
  short-is-stuck Operator.trap ts h n = absurd h
  short-is-stuck Operator.ty ts h n = absurd h
  short-is-stuck (Operator.tape n) ts h k = absurd h

-- ---- an operator whose components are computed
module _ (e : GlobalId → ℕ) (P : flat.Program) (D : Bodies Closure) (C : Program) (L : IsLowered e P D C) where
  -- a value that was made
  pub gives : (o : Position) (f : Frame) (end : ℕ) (fs : List Frame) (ps : List Pending) (s : State)
      (t : FlatTerm) (v : Value) (q : ℕ) → t ≡ flat_value v → Lands o f.code end q →
      Reaches C 0 s (state (left_with (v ∷ f.pushed) (moved q f)) fs) → Computes e C o f end fs ps s t (flat_step P D t)
  gives o f end fs ps s t v q h l r =
      subst (λ x. Computes e C o f end fs ps s x (flat_step P D x)) (sym h)
      (subst (λ y. Computes e C o f end fs ps s (flat_value v) y) (sym (value-stays P D v)) (v, q, refl, l, r))

  makes-value : (o : Position) (f : Frame) (end : ℕ) (fs : List Frame) (ps : List Pending) (below : List Value)
      (t : FlatTerm) (i : Instr) (made : Values → Value) (n : ℕ) (vs : Values) →
      t ≡ flat_value (made vs) → Stands f.code f.place (given o i) → end ≡ f.place + given_width o →
      does C (Some i) (state f fs) ≡ makes made (taken n Values.none f.pushed) (state f fs) →
      f.pushed ≡ onto vs below → n ≡ count vs →
      Computes e C o (left_with below f) end fs ps (state f fs) t Outcome.value
  makes-value o f end fs ps below t i made n vs h s z d p k = (
    made vs,
    suc f.place,
    h,
    given-lands o (left_with below f) i end z s,
    one (made-next C f fs i made n vs below (given-first o f i s) d p k),
  )

  module _ (o : Position) (f : Frame) (fs : List Frame) (ps : List Pending) (ts : FlatTerms) (vs : Values)
      (below : List Value) where
    abbrev Acts : Operator Closure → Type 0
    Acts F =
        IsComputing e f o F ts vs 0 ∅ below → Ends e o (moved (rest_end o f.place F ts ∅) (left_with below f)) fs ps →
        Computes e C o (left_with below f) (rest_end o f.place F ts ∅) fs ps (state f fs)
        (Tree.node F ((front f F ts ◂◂ flat_values vs) ◂◂ ∅))
        (itself (closures P) D F ((front f F ts ◂◂ flat_values vs) ◂◂ ∅))

    case-instructions : (ns : List ℕ) (q : ℕ) → q ≡ suc f.place → Next f (Instr.switch (branch_places o q ns ts)) →
        Stands f.code (suc f.place)
        (branch_codes e (length f.captured) o (depth f) q (q + branch_widths o ns ts) ns ts) →
        Next f (Instr.switch (branch_places o (suc f.place) ns ts))
        × Stands f.code (suc f.place)
        (branch_codes e (length f.captured) o (depth f) (suc f.place) (q + branch_widths o ns ts) ns ts)
    case-instructions ns q z n s = (
      subst (λ p. Next f (Instr.switch (branch_places o p ns ts))) z n,
      subst (λ p. Stands f.code (suc f.place)
          (branch_codes e (length f.captured) o (depth f) p (q + branch_widths o ns ts) ns ts)) z s,
    )

    pub acts : (F : Operator Closure) → Acts F
    acts (Operator.function c) i x = absurd i.computed
    acts Operator.app i x =
        call-acts e P D C L o f (rest_end o f.place Operator.app ts ∅) fs ps below _ vs i.stands.0 i.pushed
        (suspends e P D C L o (left_with below f) (rest_end o f.place Operator.app ts ∅) (omega arith) x)
    acts Operator.force i x =
        force-acts e P D C L o f (rest_end o f.place Operator.force ts ∅) fs ps below _ vs i.stands.0 i.pushed
        (suspends e P D C L o (left_with below f) (rest_end o f.place Operator.force ts ∅) (omega arith) x)
    acts (Operator.def d) i x = absurd i.computed
    acts (Operator.con c) i x =
        makes-value o f (rest_end o f.place (Operator.con c) ts ∅) fs ps below _ (Instr.con c (size ts))
        (Value.con c) (size ts) vs
        (ap (Tree.node (Operator.con c)) (append-none (flat_values vs)))
        (stands-left f.code f.place _ [] i.stands) (omega arith) refl i.pushed
        (let k = i.counted in omega (arith, k))
    acts (Operator.case ns) i x =
        let q : ℕ = rest_from o f.place (Operator.case ns) ∅ in
        let z : q ≡ suc f.place = omega arith in
        let s = case-instructions ns q z i.stands.0 i.stands.1 in
        case-acts e P C o f ns ts (q + branch_widths o ns ts) fs ps below _ vs s.0 i.pushed
        (let k = i.counted in omega (arith, k))
        (front-size e f o (Operator.case ns) ts vs 0 ∅ below i) s.1 (ap (λ p. p + branch_widths o ns ts) z)
        i.branches_lowerable x
    acts (Operator.lit l) i x = absurd i.computed
    acts (Operator.prim p) i x =
        let s = stands-left f.code f.place (given o (Instr.prim p)) [] i.stands in
        primitive-acts e C o f (rest_end o f.place (Operator.prim p) ts ∅) fs ps below _ p vs
        (given-first o f (Instr.prim p) s) i.pushed
        (landed e C o (left_with below f) (rest_end o f.place (Operator.prim p) ts ∅) (suc f.place)
        (given-lands o (left_with below f) (Instr.prim p) (rest_end o f.place (Operator.prim p) ts ∅)
        (omega arith) s) x)
    acts (Operator.act a) i x =
        makes-value o f (rest_end o f.place (Operator.act a) ts ∅) fs ps below _ (Instr.action a (size ts))
        (Value.action a) (size ts) vs
        (ap (Tree.node (Operator.act a)) (append-none (flat_values vs)))
        (stands-left f.code f.place _ [] i.stands) (omega arith) refl i.pushed
        (let k = i.counted in omega (arith, k))
    acts Operator.trap i x = absurd i.computed
    acts Operator.ty i x = absurd i.computed
    acts (Operator.tape n) i x = absurd i.computed
