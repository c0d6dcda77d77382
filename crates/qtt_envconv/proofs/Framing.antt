-- Frames around the components whose heads are taken.
use Rattle.std.proofs.Common.{◌≡◌, ℕ, zero, suc, ◌+◌, ◌<◌, ◌≤◌, List, [], ◌∷◌, ◌++◌, map, length, slice_get, Some, option_map, refl, sym, ◌∙◌, ap, ap₂, subst, arith}
use Rattle.std.proofs.lemmas.List.{length-map, length-append}
use Rattle.std.proofs.lemmas.Option.{slice_get-map}
use Rattle.qtt_base.specs.declared.place.GlobalId.{GlobalId}
use Rattle.qtt_usage.specs.declared.mult.Mult.{Mult}
use Rattle.qtt_prims.specs.declared.prim.Primitive.{Primitive}
use Rattle.qtt_prims.specs.declared.lit.Lit.{Lit}
use Rattle.qtt_term.specs.declared.term.Term as code
use Rattle.qtt_term.specs.Term.{Named, Form, Term, Terms, var, node, ε, ◌▸◌, ◌+++◌, size, skip, zeros, binders, first, rest, Call}
use Rattle.qtt_term.specs.Substitution.{sub, subs, lifts}
use Rattle.qtt_term.specs.Contraction.{literal_term}
use Rattle.qtt_term.specs.Question.{scrutinee_place, weight, weights}
use Rattle.qtt_term.specs.View.{term, terms, side_by_side}
use Rattle.qtt_term.proofs.Components.{case_of}
use Rattle.qtt_term.proofs.Options.{none≢some, some-injective}
use Rattle.qtt_term.proofs.Subst.{subs-size}
use Rattle.qtt_confluence.specs.Heads.{parts}
use Rattle.qtt_conv.proofs.Contracting.{size-side_by_side}
use Rattle.qtt_envconv.specs.Closures.{IsForm}
use Rattle.qtt_envconv.specs.Nodes.{put, over, put_in, over_in}
use Rattle.qtt_envconv.specs.Frames.{component, TakesAt, Takes, TakesNone, IsCallOf}

-- ---- places
-- behind parameters, motive and branches
pub place-is : (k : ℕ) (ns : List ℕ) (n : ℕ) → n ≡ k + length ns + 1 → n ≡ scrutinee_place k ns
place-is zero ns n e = omega arith
place-is (suc k) ns zero e = absurd (omega arith)
place-is (suc k) ns (suc n) e = ap suc (place-is k ns n (omega arith))

-- ---- components
last-component : (bs : List (ℕ × Term)) (s : Term) →
    component (length (map (λ b. b.0) bs)) (side_by_side (map (λ b. b.1) bs) +++ (s ▸ ε)) ≡ Some s
last-component [] s = refl
last-component (b ∷ bs) s = last-component bs s

scrutinee-component : (ps : List Term) (m : Term) (bs : List (ℕ × Term)) (s : Term) →
    component (scrutinee_place (length ps) (map (λ b. b.0) bs))
    (side_by_side ps +++ (m ▸ (side_by_side (map (λ b. b.1) bs) +++ (s ▸ ε)))) ≡ Some s
scrutinee-component [] m bs s = last-component bs s
scrutinee-component (p ∷ ps) m bs s = scrutinee-component ps m bs s

branches-size : (bs : List (ℕ × Term)) (s : Term) →
    size (side_by_side (map (λ b. b.1) bs) +++ (s ▸ ε)) ≡ suc (length (map (λ b. b.0) bs))
branches-size [] s = refl
branches-size (b ∷ bs) s = ap suc (branches-size bs s)

case-size : (ps : List Term) (m : Term) (bs : List (ℕ × Term)) (s : Term) →
    size (side_by_side ps +++ (m ▸ (side_by_side (map (λ b. b.1) bs) +++ (s ▸ ε)))) ≡ suc
    (scrutinee_place (length ps) (map (λ b. b.0) bs))
case-size [] m bs s = ap suc (branches-size bs s)
case-size (p ∷ ps) m bs s = ap suc (case-size ps m bs s)

pub case-takes : (t : Term) (q : Mult) (f : GlobalId) (ps : List Term) (i : ℕ) (m : Term) (bs : List (ℕ × Term))
    (s : Term) (k : ℕ) →
    t ≡ case_of q f ps i m bs s → k ≡ scrutinee_place (length ps) (map (λ b. b.0) bs) →
    Takes t [] k × (component k (parts t) ≡ Some s)
case-takes t q f ps i m bs s k is e =
    let all : Terms = side_by_side ps +++ (m ▸ (side_by_side (map (λ b. b.1) bs) +++ (s ▸ ε))) in
    let P : Term → Type 0 = λ u. Takes u [] k × (component k (parts u) ≡ Some s) in
    subst P (sym is)
    ((refl, e, case-size ps m bs s ∙ ap suc (sym e)), ap (λ j. component j all) e ∙ scrutinee-component ps m bs s)

pub call-takes : (t : Term) (p : Primitive) (ts : List code.Term) (s : code.Term) →
    t ≡ Call p (side_by_side (terms ts)) → slice_get ts 0 ≡ Some s →
    Takes t [] 0 × (component 0 (parts t) ≡ Some (term s))
call-takes t p [] s is at = absurd (none≢some at)
call-takes t p (r ∷ ts) s is at =
    let P : Term → Type 0 = λ u. Takes u [] 0 × (component 0 (parts u) ≡ Some (term s)) in
    subst P (sym is) ((refl, omega arith), ap (λ x. Some (term x)) (some-injective at))

pub call-takes_none : (t : Term) (p : Primitive) (ts : List code.Term) → t ≡ Call p (side_by_side (terms ts)) →
    length ts ≡ 0 → TakesNone t
call-takes_none t p [] is e = subst TakesNone (sym is) refl
call-takes_none t p (r ∷ ts) is e = absurd (omega arith)

-- ---- under values
-- the number of binders above component k
abbrev under : ℕ → List ℕ → ℕ
under zero ns = first ns
under (suc k) ns = under k (rest ns)

under-none : (k : ℕ) → under k [] ≡ 0
under-none zero = refl
under-none (suc k) = under-none k

under-all : (ns : List ℕ) → under (length ns) ns ≡ 0
under-all [] = refl
under-all (n ∷ ns) = under-all ns

under-scrutinee : (k m : ℕ) (ns : List ℕ) → under (scrutinee_place k ns) (zeros k (m ∷ ns)) ≡ 0
under-scrutinee zero m ns = under-all ns
under-scrutinee (suc k) m ns = under-scrutinee k m ns

taken-free : (F : Form) (ts : Terms) (ls : List Lit) (k : ℕ) → TakesAt F ts ls k → under k (binders F) ≡ 0
taken-free (Form.app q) ts ls k h = under-none k
taken-free (Form.case q f n m ns) ts ls k h = ap (λ j. under j (zeros n (m ∷ ns))) h.1 ∙ under-scrutinee n m ns
taken-free (Form.delete q) ts ls k h = ap (λ j. under j (0 ∷ 0 ∷ 1 ∷ [])) h.1
taken-free (Form.named (Named.prim p)) ts ls k h = under-none k
taken-free (Form.sort l) ts ls k h = absurd h
taken-free (Form.pi q) ts ls k h = absurd h
taken-free (Form.lam q) ts ls k h = absurd h
taken-free (Form.fam f) ts ls k h = absurd h
taken-free (Form.con f c n) ts ls k h = absurd h
taken-free (Form.named (Named.def d)) ts ls k h = absurd h
taken-free (Form.named (Named.lit l)) ts ls k h = absurd h
taken-free (Form.named (Named.prim_ty p)) ts ls k h = absurd h
taken-free (Form.named (Named.act a n)) ts ls k h = absurd h
taken-free Form.trap ts ls k h = absurd h
taken-free (Form.tape n) ts ls k h = absurd h

takes-resized : (F : Form) (ts ss : Terms) (ls : List Lit) (k : ℕ) → size ss ≡ size ts → TakesAt F ts ls k →
    TakesAt F ss ls k
takes-resized (Form.app q) ts ss ls k e h = (h.0, h.1, e ∙ h.2)
takes-resized (Form.case q f n m ns) ts ss ls k e h = (h.0, h.1, e ∙ h.2)
takes-resized (Form.delete q) ts ss ls k e h = (h.0, h.1, e ∙ h.2)
takes-resized (Form.named (Named.prim p)) ts ss ls k e h = (h.0, omega (arith, h.1))
takes-resized (Form.sort l) ts ss ls k e h = absurd h
takes-resized (Form.pi q) ts ss ls k e h = absurd h
takes-resized (Form.lam q) ts ss ls k e h = absurd h
takes-resized (Form.fam f) ts ss ls k e h = absurd h
takes-resized (Form.con f c n) ts ss ls k e h = absurd h
takes-resized (Form.named (Named.def d)) ts ss ls k e h = absurd h
takes-resized (Form.named (Named.lit l)) ts ss ls k e h = absurd h
takes-resized (Form.named (Named.prim_ty p)) ts ss ls k e h = absurd h
takes-resized (Form.named (Named.act a n)) ts ss ls k e h = absurd h
takes-resized Form.trap ts ss ls k e h = absurd h
takes-resized (Form.tape n) ts ss ls k e h = absurd h

component-under : (σ : ℕ → Term) (ns : List ℕ) (k : ℕ) (ts : Terms) (s : Term) → component k ts ≡ Some s →
    component k (subs ns σ ts) ≡ Some (sub (lifts (under k ns) σ) s)
component-under σ ns zero ε s at = absurd (none≢some at)
component-under σ ns (suc k) ε s at = absurd (none≢some at)
component-under σ ns zero (t ▸ ts) s at = ap (λ u. Some (sub (lifts (first ns) σ) u)) (some-injective at)
component-under σ ns (suc k) (t ▸ ts) s at = component-under σ (rest ns) k ts s at

-- the component whose head is taken, where the free variables of the whole stand for σ
pub component-taken : (σ : ℕ → Term) (F : Form) (ts : Terms) (ls : List Lit) (k : ℕ) (s : Term) → TakesAt F ts ls k →
    component k ts ≡ Some s → component k (subs (binders F) σ ts) ≡ Some (sub σ s)
component-taken σ F ts ls k s h at =
    component-under σ (binders F) k ts s at ∙ ap (λ n. Some (sub (lifts n σ) s)) (taken-free F ts ls k h)

-- ---- components in their places
put-same : (k : ℕ) (ts : Terms) (s : Term) → component k ts ≡ Some s → put k s ts ≡ ts
put-same zero ε s at = refl
put-same (suc k) ε s at = refl
put-same zero (t ▸ ts) s at = ap (λ u. u ▸ ts) (sym (some-injective at))
put-same (suc k) (t ▸ ts) s at = ap (λ ss. t ▸ ss) (put-same k ts s at)

component-weighs : (k : ℕ) (ts : Terms) (s : Term) → component k ts ≡ Some s →
    weight s + weights (skip (suc k) ts) ≡ weights (skip k ts)
component-weighs zero ε s at = absurd (none≢some at)
component-weighs (suc k) ε s at = absurd (none≢some at)
component-weighs zero (t ▸ ts) s at = ap (λ u. weight u + weights ts) (sym (some-injective at))
component-weighs (suc k) (t ▸ ts) s at = component-weighs k ts s at

skip-weighs : (k : ℕ) (ts : Terms) → weights (skip k ts) ≤ weights ts
skip-weighs zero ts = omega arith
skip-weighs (suc k) ε = omega arith
skip-weighs (suc k) (t ▸ ts) = omega (arith, skip-weighs k ts)

-- a frame around a component, before which stand no literals
pub framed : (σ : ℕ → Term) (t s r : Term) (k : ℕ) (ls : List Lit) → Takes t [] k → component k (parts t) ≡ Some s →
    ls ≡ [] → r ≡ sub σ s →
    (IsForm t × Takes (sub σ t) ls k) × (put_in k r (over_in ls (sub σ t)) ≡ sub σ t) ×
    (weight r + weights (skip (suc k) (parts (sub σ t))) < weight (sub σ t))
framed σ (var i) s r k ls h at none is = absurd h
framed σ (node F ts) s r k ls h at none is =
    let ss = subs (binders F) σ ts in
    let there = component-taken σ F ts [] k s h at in
    let weighs = component-weighs k ss (sub σ s) there in
    let same = ap weight is in
    let P : List Lit → Type 0 = λ xs. TakesAt F ss xs k in (
      (tt, subst P (sym none) (takes-resized F ts ss [] k (subs-size ts (binders F) σ) h)),
      ap₂ (λ u xs. node F (put k u (over xs ss))) is none ∙ ap (node F) (put-same k ss (sub σ s) there),
      omega (arith, weighs, same, skip-weighs k ss),
    )

-- ---- past a literal
put-next : (ls : List Lit) (l : Lit) (ts : Terms) (u : Term) → component (suc (length ls)) ts ≡ Some u →
    put (suc (length ls)) u (over (ls ++ l ∷ []) ts) ≡ put (length ls) (literal_term l) (over ls ts)
put-next [] l ε u at = refl
put-next [] l (t ▸ ε) u at = refl
put-next [] l (t ▸ s ▸ ts) u at = ap (λ x. literal_term l ▸ x ▸ ts) (sym (some-injective at))
put-next (m ∷ ls) l ε u at = refl
put-next (m ∷ ls) l (t ▸ ts) u at = ap (λ ss. literal_term m ▸ ss) (put-next ls l ts u at)

put-last : (ls : List Lit) (l : Lit) (ts : Terms) →
    over (ls ++ l ∷ []) ts ≡ put (length ls) (literal_term l) (over ls ts)
put-last [] l ε = refl
put-last [] l (t ▸ ts) = refl
put-last (m ∷ ls) l ε = refl
put-last (m ∷ ls) l (t ▸ ts) = ap (λ ss. literal_term m ▸ ss) (put-last ls l ts)

component-within : (k : ℕ) (ts : Terms) (s : Term) → component k ts ≡ Some s → k < size ts
component-within zero ε s at = absurd (none≢some at)
component-within (suc k) ε s at = absurd (none≢some at)
component-within zero (t ▸ ts) s at = omega arith
component-within (suc k) (t ▸ ts) s at = omega (arith, component-within k ts s at)

component-get : (ts : List Term) (k : ℕ) → component k (side_by_side ts) ≡ slice_get ts k
component-get [] k = refl
component-get (t ∷ ts) zero = refl
component-get (t ∷ ts) (suc k) = component-get ts k

-- an argument where the free variables of the whole stand for σ
argument-at : (σ : ℕ → Term) (ts : List code.Term) (n : ℕ) (s : code.Term) → slice_get ts n ≡ Some s →
    component n (subs [] σ (side_by_side (terms ts))) ≡ Some (sub σ (term s))
argument-at σ ts n s at =
    component-under σ [] n (side_by_side (terms ts)) (term s)
    (component-get (terms ts) n ∙ slice_get-map term ts n ∙ ap (option_map term) at)
    ∙ ap (λ m. Some (sub (lifts m σ) (term s))) (under-none n)

call-next : (p : Primitive) (ss : Terms) (r : Term) (before after : List Lit) (l : Lit) (k n : ℕ) →
    k ≡ length before → after ≡ before ++ l ∷ [] → n ≡ length after → component n ss ≡ Some r →
    Takes (Call p ss) after n ×
    (put_in n r (over_in after (Call p ss)) ≡ put_in k (literal_term l) (over_in before (Call p ss))) ×
    (weight r + weights (skip (suc n) ss) ≡ weights (skip (suc k) ss))
call-next p ss r before after l k n here e counts at =
    let next : n ≡ suc k = omega (arith, ap length e, length-append before (l ∷ [])) in
    let place : n ≡ suc (length before) = omega arith in (
      (counts, component-within n ss r at),
      ap₂ (λ j ls. Call p (put j r (over ls ss))) place e
          ∙ ap (node (Form.named (Named.prim p))) (put-next before l ss r (ap (λ j. component j ss) (sym place) ∙ at))
          ∙ ap (λ j. Call p (put j (literal_term l) (over before ss))) (sym here),
      component-weighs n ss r at ∙ ap (λ j. weights (skip j ss)) next,
    )

-- the frame around the next argument
pub past-next : (σ : ℕ → Term) (t : Term) (p : Primitive) (ts : List code.Term) (s : code.Term) (r : Term)
    (before after : List Lit) (l : Lit) (k n : ℕ) →
    t ≡ Call p (side_by_side (terms ts)) → Takes (sub σ t) before k → after ≡ before ++ l ∷ [] →
    n ≡ length after → slice_get ts n ≡ Some s → r ≡ sub σ (term s) →
    (IsForm t × Takes (sub σ t) after n) ×
    (put_in n r (over_in after (sub σ t)) ≡ put_in k (literal_term l) (over_in before (sub σ t))) ×
    (weight r + weights (skip (suc n) (parts (sub σ t))) ≡ weights (skip (suc k) (parts (sub σ t))))
past-next σ t p ts s r before after l k n is takes e counts at same =
    let Q : Term → Type 0 = λ u. Takes (sub σ u) before k in
    let P : Term → Type 0 = λ u. (IsForm u × Takes (sub σ u) after n) ×
    (put_in n r (over_in after (sub σ u)) ≡ put_in k (literal_term l) (over_in before (sub σ u))) ×
    (weight r + weights (skip (suc n) (parts (sub σ u))) ≡ weights (skip (suc k) (parts (sub σ u)))) in
    let here = subst Q is takes in
    let next = call-next p (subs [] σ (side_by_side (terms ts))) r before after l k n here.0 e counts
    (argument-at σ ts n s at ∙ ap Some (sym same)) in
    subst P (sym is) ((tt, next.0), next.1, next.2)

-- all arguments are literals
pub past-last : (σ : ℕ → Term) (t : Term) (p : Primitive) (ts : List code.Term) (before after : List Lit) (l : Lit)
    (k n : ℕ) →
    t ≡ Call p (side_by_side (terms ts)) → Takes (sub σ t) before k → after ≡ before ++ l ∷ [] →
    n ≡ length after → length ts ≤ n →
    IsCallOf n t × (over_in after (sub σ t) ≡ put_in k (literal_term l) (over_in before (sub σ t)))
past-last σ t p ts before after l k n is takes e counts within =
    let Q : Term → Type 0 = λ u. Takes (sub σ u) before k in
    let P : Term → Type 0 = λ u. IsCallOf n u ×
    (over_in after (sub σ u) ≡ put_in k (literal_term l) (over_in before (sub σ u))) in
    let here = subst Q is takes in
    let ss = subs [] σ (side_by_side (terms ts)) in
    let size_is = subs-size (side_by_side (terms ts)) [] σ in
    let all : size (side_by_side (terms ts)) ≡ n =
    omega (
      arith,
      here.0,
      here.1,
      size_is,
      size-side_by_side (terms ts),
      length-map ts term,
      ap length e,
      length-append before (l ∷ []),
    ) in
    subst P (sym is) (
      all,
      ap (λ ls. Call p (over ls ss)) e
          ∙ ap (node (Form.named (Named.prim p))) (put-last before l ss)
          ∙ ap (λ j. Call p (put j (literal_term l) (over before ss))) (sym here.0),
    )
