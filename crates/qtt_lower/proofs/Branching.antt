-- What the machine does at a Case, beside what its term does.
use Rattle.std.proofs.Common.{◌≡◌, ℕ, zero, suc, ◌+◌, ◌≤◌, List, [], ◌∷◌, ◌++◌, length, Option, Some, None, Bool, true, false, cond, eqb, refl, sym, ◌∙◌, ap, subst, arith, length-append, append_assoc, append-nil}
use Rattle.std.specs.List.{slice_get}
use Rattle.std.proofs.lemmas.Bool.{eqb-true}
use Rattle.qtt_base.specs.declared.place.GlobalId.{GlobalId}
use Rattle.qtt_term.specs.Contraction.{chain}
use Rattle.qtt_erase.specs.Binding.{Tree, ∅, ◌◂◌, ◌◂◂◌, size, push, lifts, sub, subs}
use Rattle.qtt_erase.specs.Step.{Outcome, as_con, scrutinee, contracts_to, branch_at, select, iota}
use Rattle.qtt_closure.specs.Flat as flat
use Rattle.qtt_closure.specs.Flat.{FlatTerm, FlatTerms, binders, closures}
use Rattle.qtt_code.specs.Value.{Value, Values, ◌▹◌, listed}
use Rattle.qtt_code.specs.Instruction.{Position, Instr, Program}
use Rattle.qtt_code.specs.Machine.{Frame, moved, left_with, with_locals, branches, switches, does}
use Rattle.qtt_lower.specs.Lowering.{jumps, joins, join_width, width, branch_widths, branch_places, code, branch_codes}
use Rattle.qtt_lower.specs.Lowerable.{Lowerable, AllLowerable}
use Rattle.qtt_lower.specs.Represents.{flat_value, flat_values, flats, count, onto, variables, depth, filling, filled, Pending, plug, firsts, Stands, Next, Continues, Ends, Represents}
use Rattle.qtt_lower.proofs.Values.{append-assoc, flats-append, flats-listed, values-size, listed-length, branch-filled}
use Rattle.qtt_lower.proofs.Parts.{stands-left, stands-right, code-length, joins-length}
use Rattle.qtt_lower.proofs.Acting.{state, tick, Computes}

-- ---- the branch of a tag
-- a branch b with so many fields into which σ was put, and where its code stands
pub record Chosen (e : GlobalId → ℕ) (c : ℕ) (is : List Instr) (o : Position) (d end : ℕ) (σ : ℕ → FlatTerm)
    (fs : FlatTerms) (place : Option ℕ) (t : FlatTerm) : Type 0 where
  pub fields : ℕ
  pub branch : FlatTerm
  pub others : List ℕ
  pub at : ℕ
  pub found : place ≡ Some at
  pub counted : size fs ≡ fields
  pub put : t ≡ sub binders (push fs Tree.var) (sub binders (lifts binders fields σ) branch)
  pub lowerable : Lowerable (fields + d) branch
  pub stands : Stands is at (code e c o (fields + d) at branch)
  pub joins : Stands is (at + width o branch) (joins o fields others end)
  pub last : others ≡ [] → at + width o branch + join_width o fields [] ≡ end

abbrev pub IsChosen : (e : GlobalId → ℕ) (c : ℕ) (is : List Instr) (o : Position) (d end : ℕ) (σ : ℕ → FlatTerm)
    (fs : FlatTerms) (place : Option ℕ) → Option FlatTerm → Type 0
IsChosen e c is o d end σ fs place None = Unit {0}
IsChosen e c is o d end σ fs place (Some t) = Chosen e c is o d end σ fs place t

module _ (e : GlobalId → ℕ) (c : ℕ) (is : List Instr) (o : Position) (d end : ℕ) (σ : ℕ → FlatTerm)
    (P : flat.Program) (fs xs : FlatTerms) where
  first-chosen : (n : ℕ) (ns : List ℕ) (b : FlatTerm) (ts : FlatTerms) (p : ℕ) →
      Stands is p (branch_codes e c o d p end (n ∷ ns) (b ◂ ts)) →
      end ≡ p + branch_widths o (n ∷ ns) (b ◂ ts) → Lowerable (n + d) b → (x : Bool) → eqb (size fs) n ≡ x →
      IsChosen e c is o d end σ fs (Some p)
      (cond x (Some (sub binders (push fs Tree.var) (sub binders (lifts binders n σ) b))) None)
  first-chosen n ns b ts p h m l false z = tt
  first-chosen n ns b ts p h m l true z =
      let k = stands-left is p (code e c o (n + d) p b ++ joins o n ns end)
      (branch_codes e c o d (p + width o b + join_width o n ns) end ns ts) h in
      let w = code-length e c o (n + d) p b in
      record {
        fields = n;
        branch = b;
        others = ns;
        at = p;
        found = refl;
        counted = eqb-true (size fs) n z;
        put = refl;
        lowerable = l;
        stands = stands-left is p (code e c o (n + d) p b) (joins o n ns end) k;
        joins = stands-right is p (code e c o (n + d) p b) (joins o n ns end) (p + width o b) (omega (arith, w)) k;
        last = λ q. ends ns q m;
      }
    where
      ends : (ns : List ℕ) → ns ≡ [] → end ≡ p + branch_widths o (n ∷ ns) (b ◂ ts) →
          p + width o b + join_width o n [] ≡ end
      ends [] q m = omega (arith, m)
      ends (j ∷ ns) q m = absurd (cc q)

  pub branch-chosen : (tag : ℕ) (ns : List ℕ) (ts : FlatTerms) (p : ℕ) → length ns ≤ size ts →
      Stands is p (branch_codes e c o d p end ns ts) →
      end ≡ p + branch_widths o ns ts → AllLowerable ns d (firsts (length ns) ts) →
      IsChosen e c is o d end σ fs (slice_get (branch_places o p ns ts) tag)
      (branch_at (closures P) tag ns (subs binders ns σ (firsts (length ns) ts) ◂◂ xs) fs)
  branch-chosen zero [] ts p s h m l = tt
  branch-chosen (suc tag) [] ts p s h m l = tt
  branch-chosen zero (n ∷ ns) ∅ p s h m l = absurd (omega (arith, s))
  branch-chosen (suc tag) (n ∷ ns) ∅ p s h m l = absurd (omega (arith, s))
  branch-chosen zero (n ∷ ns) (b ◂ ts) p s h m l = first-chosen n ns b ts p h m l.0 (eqb (size fs) n) refl
  branch-chosen (suc tag) (n ∷ ns) (b ◂ ts) p s h m l =
      let w = code-length e c o (n + d) p b in
      let j = joins-length o n ns end in
      let v = length-append (code e c o (n + d) p b) (joins o n ns end) in
      branch-chosen tag ns ts (p + width o b + join_width o n ns) (omega (arith, s))
      (stands-right is p (code e c o (n + d) p b ++ joins o n ns end)
      (branch_codes e c o d (p + width o b + join_width o n ns) end ns ts) (p + width o b + join_width o n ns)
      (omega (arith, w, j, v)) h)
      (omega (arith, m)) l.1

-- ---- after a branch its fields are dropped, and the code behind the Case is next
module _ (e : GlobalId → ℕ) where
  jumps-on : (f : Frame) (p end : ℕ) (ns : List ℕ) {fs : List Frame} {ps : List Pending} →
      Stands f.code p (jumps ns end) → (ns ≡ [] → p ≡ end) →
      Continues e (moved end f) fs ps → Continues e (moved p f) fs ps
  jumps-on f p end [] {fs = fs} {ps = ps} h l c = subst (λ q. Continues e (moved q f) fs ps) (sym (l refl)) c
  jumps-on f p end (n ∷ ns) h l c = Continues.jumps end h.0 c

  no-values : (vs : Values) → count vs ≡ 0 → listed vs ≡ []
  no-values Values.none h = refl
  no-values (v ▹ vs) h = absurd (omega (arith, h))

  joins-on : (f : Frame) (vs : Values) (n : ℕ) (p end : ℕ) (ns : List ℕ) {fs : List Frame} {ps : List Pending} →
      count vs ≡ n →
      Stands f.code p (joins Position.inner n ns end) → (ns ≡ [] → p + join_width Position.inner n [] ≡ end) →
      Continues e (moved end f) fs ps →
      Continues e (moved p (with_locals (f.locals ++ listed vs) f)) fs ps
  joins-on f vs zero p end ns {fs = fs} {ps = ps} k h l c =
      subst (λ xs. Continues e (moved p (with_locals xs f)) fs ps)
      (sym (ap (λ ys. f.locals ++ ys) (no-values vs k) ∙ append-nil f.locals))
      (jumps-on f p end ns h (λ q. let x = l q in omega (arith, x)) c)
  joins-on f vs (suc n) p end ns k h l c =
      Continues.leaves f.locals (listed vs) (h.0 ∙ ap (λ j. Some (Instr.leave j)) (sym (listed-length vs ∙ k))) refl
      (jumps-on f (suc p) end ns h.1 (λ q. let x = l q in omega (arith, x)) c)

  branch-ends : (o : Position) (f : Frame) (vs : Values) (n : ℕ) (p end : ℕ)
      (ns : List ℕ) {fs : List Frame} {ps : List Pending} → count vs ≡ n →
      Stands f.code p (joins o n ns end) → (ns ≡ [] → p + join_width o n [] ≡ end) → Ends e o (moved end f) fs ps →
      Ends e o (moved p (with_locals (f.locals ++ listed vs) f)) fs ps
  branch-ends Position.inner f vs n p end ns k h l (Ends.goes_on c) = Ends.goes_on (joins-on f vs n p end ns k h l c)
  branch-ends Position.tail f vs n p end ns k h l (Ends.gives_back q w) = Ends.gives_back q w

-- ---- the Case
scrutinee-behind : (ns : List ℕ) (bs xs : FlatTerms) → size bs ≡ length ns → scrutinee ns (bs ◂◂ xs) ≡ scrutinee [] xs
scrutinee-behind [] ∅ xs h = refl
scrutinee-behind [] (b ◂ bs) xs h = absurd (omega (arith, h))
scrutinee-behind (n ∷ ns) ∅ xs h = absurd (omega (arith, h))
scrutinee-behind (n ∷ ns) (b ◂ bs) xs h = scrutinee-behind ns bs xs (omega (arith, h))

module _ (e : GlobalId → ℕ) (P : flat.Program) (C : Program) (o : Position) (f : Frame) (ns : List ℕ)
    (ts : FlatTerms) (end : ℕ) (fs : List Frame) (ps : List Pending)
    (below : List Value) (t : FlatTerm) where
  abbrev Does : Outcome FlatTerm → Type 0
  Does r = Computes e C o (left_with below f) end fs ps (state f fs) t r

  abbrev bs : FlatTerms
  bs = subs binders ns (filling f) (firsts (length ns) ts)

  abbrev places : List ℕ
  places = branch_places o (suc f.place) ns ts

  -- the frame at a branch
  abbrev in_branch : ℕ → Values → Frame
  in_branch q us = moved q (with_locals (f.locals ++ listed us) (left_with below f))

  branch-depth : (q : ℕ) (us : Values) → depth (in_branch q us) ≡ count us + depth f
  branch-depth q us =
      let a = length-append f.captured (f.locals ++ listed us) in
      let b = length-append f.locals (listed us) in
      let c = length-append f.captured f.locals in
      let d = listed-length us in
      omega (arith, a, b, c, d)

  branch-variables : (q : ℕ) (us : Values) → flats (variables (in_branch q us)) ≡ flats (variables f) ◂◂ flat_values us
  branch-variables q us =
      ap flats (sym (append_assoc f.captured f.locals (listed us))) ∙ flats-append (variables f) (listed us) ∙
      ap (λ ws. flats (variables f) ◂◂ ws) (flats-listed us)

  chosen-acts : (tag : ℕ) (us : Values) (m : Option FlatTerm) → Next f (Instr.switch places) →
      f.pushed ≡ Value.con tag us ∷ below →
      IsChosen e (length f.captured) f.code o (depth f) end (filling f) (flat_values us)
      (slice_get places tag) m → Ends e o (moved end (left_with below f)) fs ps →
      Does (contracts_to m)
  chosen-acts tag us None n p h x = tt
  chosen-acts tag us (Some u) n p h x =
      let g : Frame = in_branch h.at us in
      let k : count us ≡ h.fields = sym (values-size us) ∙ h.counted in
      let j : h.fields + depth f ≡ depth g = ap (λ i. i + depth f) (sym k) ∙ sym (branch-depth h.at us) in
      let filled_in : u ≡ filled g h.branch =
      h.put ∙ branch-filled (flats (variables f)) (flat_values us) h.fields h.branch h.counted
      ∙ ap (λ ws. sub binders (push ws Tree.var) h.branch) (sym (branch-variables h.at us)) in (
        state g fs,
        tick (ap (λ i. does C i (state f fs)) n ∙ ap (λ l. switches places l (state f fs)) p ∙
            ap (λ q. branches q us below (state f fs)) h.found),
        subst (λ r. Represents e (plug ps r) (state g fs)) (sym filled_in)
            (Represents.computes o h.branch (subst (λ i. Lowerable i h.branch) j h.lowerable)
            (subst (λ i. Stands g.code h.at (code e (length f.captured) o i h.at h.branch)) j h.stands)
            (branch-ends e o (left_with below f) us h.fields (h.at + width o h.branch) end h.others k h.joins
            h.last x)),
      )

  value-acts : (v : Value) (xs : FlatTerms) → Next f (Instr.switch places) → f.pushed ≡ v ∷ below →
      length ns ≤ size ts →
      Stands f.code (suc f.place) (branch_codes e (length f.captured) o (depth f) (suc f.place) end ns ts) →
      end ≡ suc f.place + branch_widths o ns ts →
      AllLowerable ns (depth f) (firsts (length ns) ts) → Ends e o (moved end (left_with below f)) fs ps →
      Does (contracts_to (chain (as_con (flat_value v)) (select (closures P) ns (bs ◂◂ xs))))
  value-acts (Value.literal l) xs n p s h m a x = tt
  value-acts (Value.closure b us) xs n p s h m a x = tt
  value-acts (Value.action k us) xs n p s h m a x = tt
  value-acts (Value.tape i) xs n p s h m a x = tt
  value-acts Value.type xs n p s h m a x = tt
  value-acts (Value.con tag us) xs n p s h m a x =
      chosen-acts tag us (branch_at (closures P) tag ns (bs ◂◂ xs) (flat_values us)) n p
      (branch-chosen e (length f.captured) f.code o (depth f) end (filling f) P (flat_values us) xs tag ns ts
      (suc f.place) s h m a) x

  values-act : (vs : Values) → Next f (Instr.switch places) → f.pushed ≡ onto vs below → length ns ≤ size ts →
      Stands f.code (suc f.place) (branch_codes e (length f.captured) o (depth f) (suc f.place) end ns ts) →
      end ≡ suc f.place + branch_widths o ns ts →
      AllLowerable ns (depth f) (firsts (length ns) ts) → Ends e o (moved end (left_with below f)) fs ps →
      (xs : FlatTerms) →
      Does (contracts_to (chain (scrutinee [] (flat_values vs ◂◂ ∅))
      (λ s. chain (as_con s) (select (closures P) ns (bs ◂◂ xs)))))
  values-act Values.none n p s h m a x xs = tt
  values-act (v ▹ Values.none) n p s h m a x xs = value-acts v xs n p s h m a x
  values-act (v ▹ w ▹ vs) n p s h m a x xs = tt

  pub case-acts : (vs : Values) → Next f (Instr.switch places) → f.pushed ≡ onto vs below → length ns ≤ size ts →
      size bs ≡ length ns →
      Stands f.code (suc f.place) (branch_codes e (length f.captured) o (depth f) (suc f.place) end ns ts) →
      end ≡ suc f.place + branch_widths o ns ts →
      AllLowerable ns (depth f) (firsts (length ns) ts) → Ends e o (moved end (left_with below f)) fs ps →
      Does (contracts_to (iota (closures P) ns ((bs ◂◂ flat_values vs) ◂◂ ∅)))
  case-acts vs n p s z h m a x =
      subst (λ ws. Does (contracts_to (iota (closures P) ns ws))) (sym (append-assoc bs (flat_values vs) ∅))
      (subst (λ q. Does (contracts_to
      (chain q (λ s. chain (as_con s) (select (closures P) ns (bs ◂◂ (flat_values vs ◂◂ ∅)))))))
      (sym (scrutinee-behind ns bs (flat_values vs ◂◂ ∅) z))
      (values-act vs n p s h m a x (flat_values vs ◂◂ ∅)))
