-- What a flat term does next, by what a component does next around which operators are pending.
use Rattle.std.proofs.Common.{◌≡◌, ℕ, zero, suc, ◌≤◌, List, [], ◌∷◌, refl, sym, ◌∙◌, ap, arith}
use Rattle.qtt_erase.specs.Binding.{Tree, ∅, ◌◂◌, ◌◂◂◌, size}
use Rattle.qtt_erase.specs.Operator.{Operator, waiting_of}
use Rattle.qtt_erase.specs.Step.{Bodies, Outcome, behind, before, itself, finish, nexts}
use Rattle.qtt_erase.proofs.Bindings.{subs-size}
use Rattle.qtt_closure.specs.Flat.{Closure, FlatTerm, FlatTerms, Program, binders, closures, flat_step}
use Rattle.qtt_code.specs.Value.{Value, Values, ◌▹◌}
use Rattle.qtt_code.specs.Instruction.{Position}
use Rattle.qtt_code.specs.Machine.{Frame}
use Rattle.qtt_lower.specs.Lowering.{branches, branch_count}
use Rattle.qtt_lower.specs.Represents.{flat_value, flat_values, Pending, plug, firsts, filling, front, pending, IsComputed, IsComputing, Waits, Continues, Ends}
use Rattle.qtt_lower.proofs.Values.{append-assoc, value-stays}

-- done components before others
abbrev behind_all : FlatTerms → Outcome FlatTerms → Outcome FlatTerms
behind_all ∅ r = r
behind_all (t ◂ ts) r = behind t (behind_all ts r)

behind_all-values : (ts : FlatTerms) → behind_all ts Outcome.value ≡ Outcome.value
behind_all-values ∅ = refl
behind_all-values (t ◂ ts) = ap (behind t) (behind_all-values ts)

behind_all-step : (ts us : FlatTerms) → behind_all ts (Outcome.step us) ≡ Outcome.step (ts ◂◂ us)
behind_all-step ∅ us = refl
behind_all-step (t ◂ ts) us = ap (behind t) (behind_all-step ts us)

behind_all-trap : (ts : FlatTerms) (k : _) → behind_all ts (Outcome.trap k) ≡ Outcome.trap k
behind_all-trap ∅ k = refl
behind_all-trap (t ◂ ts) k = ap (behind t) (behind_all-trap ts k)

behind_all-stuck : (ts : FlatTerms) → behind_all ts Outcome.stuck ≡ Outcome.stuck
behind_all-stuck ∅ = refl
behind_all-stuck (t ◂ ts) = ap (behind t) (behind_all-stuck ts)

behind_all-append : (ts us : FlatTerms) (r : Outcome FlatTerms) →
    behind_all (ts ◂◂ us) r ≡ behind_all ts (behind_all us r)
behind_all-append ∅ us r = refl
behind_all-append (t ◂ ts) us r = ap (behind t) (behind_all-append ts us r)

-- ---- an operator whose first components are its branches, and then values
pub record IsPending (p : Pending) : Type 0 where
  pub branches : FlatTerms
  pub values : Values
  pub computed : IsComputed p.operator
  pub counted : size branches ≡ branch_count p.operator
  pub before : p.before ≡ branches ◂◂ flat_values values

abbrev pub ArePending : List Pending → Type 0
ArePending [] = Unit {0}
ArePending (p ∷ ps) = IsPending p × ArePending ps

module _ (P : Program) (D : Bodies Closure) where
  waiting-count : (F : Operator Closure) → IsComputed F → waiting_of (closures P).waiting F ≡ branch_count F
  waiting-count (Operator.function f) h = absurd h
  waiting-count Operator.app h = refl
  waiting-count Operator.force h = refl
  waiting-count (Operator.def d) h = absurd h
  waiting-count (Operator.con c) h = refl
  waiting-count (Operator.case ns) h = refl
  waiting-count (Operator.lit l) h = absurd h
  waiting-count (Operator.prim p) h = refl
  waiting-count (Operator.act a) h = refl
  waiting-count Operator.trap h = absurd h
  waiting-count Operator.ty h = absurd h
  waiting-count (Operator.tape n) h = absurd h

  nexts-waiting : (bs ts : FlatTerms) →
      nexts (closures P) D (size bs) (bs ◂◂ ts) ≡ behind_all bs (nexts (closures P) D 0 ts)
  nexts-waiting ∅ ts = refl
  nexts-waiting (b ◂ bs) ts = ap (behind b) (nexts-waiting bs ts)

  nexts-values : (vs : Values) (ts : FlatTerms) →
      nexts (closures P) D 0 (flat_values vs ◂◂ ts) ≡ behind_all (flat_values vs) (nexts (closures P) D 0 ts)
  nexts-values Values.none ts = refl
  nexts-values (v ▹ vs) ts =
      ap (λ o. before o (flat_value v) (flat_values vs ◂◂ ts) (nexts (closures P) D 0 (flat_values vs ◂◂ ts)))
      (value-stays P D v)
      ∙ ap (behind (flat_value v)) (nexts-values vs ts)

  -- an operator goes on with the components behind its values
  pub next-is : (p : Pending) → IsPending p → (ts : FlatTerms) →
      flat_step P D (Tree.node p.operator (p.before ◂◂ ts)) ≡ finish (closures P) D p.operator (p.before ◂◂ ts)
      (behind_all p.before (nexts (closures P) D 0 ts))
  next-is p i ts =
      let B : FlatTerms = i.branches ◂◂ flat_values i.values in
      ap (finish (closures P) D p.operator (p.before ◂◂ ts))
      (ap (λ us. nexts (closures P) D (waiting_of (closures P).waiting p.operator) (us ◂◂ ts)) i.before
      ∙ ap (λ n. nexts (closures P) D n (B ◂◂ ts)) (waiting-count p.operator i.computed ∙ sym i.counted)
      ∙ ap (nexts (closures P) D (size i.branches)) (append-assoc i.branches (flat_values i.values) ts)
      ∙ nexts-waiting i.branches (flat_values i.values ◂◂ ts)
      ∙ ap (behind_all i.branches) (nexts-values i.values ts)
      ∙ sym (behind_all-append i.branches (flat_values i.values) (nexts (closures P) D 0 ts))
      ∙ ap (λ us. behind_all us (nexts (closures P) D 0 ts)) (sym i.before))

  -- with all components done it acts itself
  pub acts-itself : (p : Pending) → IsPending p →
      flat_step P D (Tree.node p.operator (p.before ◂◂ ∅)) ≡ itself (closures P) D p.operator (p.before ◂◂ ∅)
  acts-itself p i = next-is p i ∅ ∙ ap (finish (closures P) D p.operator (p.before ◂◂ ∅)) (behind_all-values p.before)

  -- ---- a component's step, trap or being stuck is that of the whole
  pub steps-inside : (p : Pending) → IsPending p → (t u : FlatTerm) → flat_step P D t ≡ Outcome.step u →
      flat_step P D (Tree.node p.operator (p.before ◂◂ t ◂ p.behind)) ≡ Outcome.step
      (Tree.node p.operator (p.before ◂◂ u ◂ p.behind))
  steps-inside p i t u e =
      next-is p i (t ◂ p.behind)
      ∙ ap (λ o. finish (closures P) D p.operator (p.before ◂◂ t ◂ p.behind)
      (behind_all p.before (before o t p.behind (nexts (closures P) D 0 p.behind)))) e
      ∙ ap (finish (closures P) D p.operator (p.before ◂◂ t ◂ p.behind)) (behind_all-step p.before (u ◂ p.behind))

  pub traps-inside : (p : Pending) → IsPending p → (t : FlatTerm) (k : _) → flat_step P D t ≡ Outcome.trap k →
      flat_step P D (Tree.node p.operator (p.before ◂◂ t ◂ p.behind)) ≡ Outcome.trap k
  traps-inside p i t k e =
      next-is p i (t ◂ p.behind)
      ∙ ap (λ o. finish (closures P) D p.operator (p.before ◂◂ t ◂ p.behind)
      (behind_all p.before (before o t p.behind (nexts (closures P) D 0 p.behind)))) e
      ∙ ap (finish (closures P) D p.operator (p.before ◂◂ t ◂ p.behind)) (behind_all-trap p.before k)

  pub stuck-inside : (p : Pending) → IsPending p → (t : FlatTerm) → flat_step P D t ≡ Outcome.stuck →
      flat_step P D (Tree.node p.operator (p.before ◂◂ t ◂ p.behind)) ≡ Outcome.stuck
  stuck-inside p i t e =
      next-is p i (t ◂ p.behind)
      ∙ ap (λ o. finish (closures P) D p.operator (p.before ◂◂ t ◂ p.behind)
      (behind_all p.before (before o t p.behind (nexts (closures P) D 0 p.behind)))) e
      ∙ ap (finish (closures P) D p.operator (p.before ◂◂ t ◂ p.behind)) (behind_all-stuck p.before)

  pub plug-steps : (ps : List Pending) → ArePending ps → (t u : FlatTerm) → flat_step P D t ≡ Outcome.step u →
      flat_step P D (plug ps t) ≡ Outcome.step (plug ps u)
  plug-steps [] h t u e = e
  plug-steps (p ∷ ps) h t u e = plug-steps ps h.1 _ _ (steps-inside p h.0 t u e)

  pub plug-traps : (ps : List Pending) → ArePending ps →
      (t : FlatTerm) (k : _) → flat_step P D t ≡ Outcome.trap k → flat_step P D (plug ps t) ≡ Outcome.trap k
  plug-traps [] h t k e = e
  plug-traps (p ∷ ps) h t k e = plug-traps ps h.1 _ k (traps-inside p h.0 t k e)

  pub plug-stuck : (ps : List Pending) → ArePending ps → (t : FlatTerm) → flat_step P D t ≡ Outcome.stuck →
      flat_step P D (plug ps t) ≡ Outcome.stuck
  plug-stuck [] h t e = e
  plug-stuck (p ∷ ps) h t e = plug-stuck ps h.1 _ (stuck-inside p h.0 t e)

-- ---- the operators that frames have pending are so
firsts-size : (k : ℕ) (ts : FlatTerms) → k ≤ size ts → size (firsts k ts) ≡ k
firsts-size zero ts h = refl
firsts-size (suc k) ∅ h = absurd (omega (arith, h))
firsts-size (suc k) (t ◂ ts) h = ap suc (firsts-size k ts (omega (arith, h)))

module _ (e : _) where
  pub front-size : (f : Frame) (o : Position) (F : Operator Closure) (ts : FlatTerms) (vs : Values) (k : ℕ)
      (us : FlatTerms) (below : List Value) →
      IsComputing e f o F ts vs k us below → size (front f F ts) ≡ branch_count F
  front-size f o F ts vs k us below i =
      subs-size binders (firsts (branch_count F) ts) (branches F) (filling f)
      ∙ firsts-size (branch_count F) ts (let c = i.counted in omega (arith, c))

  pub is-pending : (f : Frame) (o : Position) (F : Operator Closure) (ts : FlatTerms) (vs : Values) (k : ℕ)
      (us ws : FlatTerms) (below : List Value) →
      IsComputing e f o F ts vs k us below → IsPending (pending f F ts vs ws)
  is-pending f o F ts vs k us ws below i = record {
    branches = front f F ts;
    values = vs;
    computed = i.computed;
    counted = front-size f o F ts vs k us below i;
    before = refl;
  }

  mutual
    pub waits-pending : {fs : List Frame} {ps : List Pending} → Waits e fs ps → ArePending ps
    waits-pending Waits.nothing = tt
    waits-pending (Waits.frame c) = continues-pending c

    pub continues-pending : {f : Frame} {fs : List Frame} {ps : List Pending} → Continues e f fs ps → ArePending ps
    continues-pending (Continues.returns n p w) = waits-pending w
    continues-pending (Continues.jumps q n c) = continues-pending c
    continues-pending (Continues.leaves kept dropped n l c) = continues-pending c
    continues-pending (Continues.component {f = f} o F ts vs us below i x) =
        (is-pending f o F ts vs 1 us us below i, ends-pending x)

    pub ends-pending : {o : Position} {f : Frame} {fs : List Frame} {ps : List Pending} → Ends e o f fs ps →
        ArePending ps
    ends-pending (Ends.goes_on c) = continues-pending c
    ends-pending (Ends.gives_back p w) = waits-pending w
