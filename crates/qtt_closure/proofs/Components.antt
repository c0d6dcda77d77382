-- What the components of a term are converted to, in the words of the code's lists.
use Rattle.std.proofs.Common.{◌≡◌, ℕ, suc, ◌+◌, ◌≤◌, List, [], ◌∷◌, ◌++◌, cond, length, map, set, refl, sym, ◌∙◌, ap, arith, append_assoc}
use mathlib.Core.Path.{ap₂}
use Rattle.std.proofs.Math.Seq.{set-append_seam}
use Rattle.std.proofs.lemmas.List.{map-set, append-nil, length-map}
use Rattle.std.proofs.lemmas.Grind.{common_steps}
use Rattle.qtt_prims.specs.declared.prim.Primitive.{Primitive}
use Rattle.qtt_term.specs.Term.{Action}
use Rattle.qtt_erase.specs.declared.lean.Lean as lean_lemmas
use Rattle.qtt_erase.specs.Binding.{Tree, ∅, ◌◂◌, ◌◂◂◌}
use Rattle.qtt_erase.specs.Operator.{Operator, App, Force, Con, Call, Act}
use Rattle.qtt_erase.specs.Lean.{Lean, Leans, Fun, Thunk}
use Rattle.qtt_erase.specs.Erasure.{Slot, Slots, place_at}
use Rattle.qtt_erase.specs.View.{side_by_side}
use Rattle.qtt_closure.specs.declared.flat.FlatTerm as flat_lemmas
use Rattle.qtt_closure.specs.Flat.{Function}
use Rattle.qtt_closure.specs.Conversion.{mentions, after, afters, skip, bound, captures, captured, closure_at, flat, flats, functions, evaluated_functions, waiting_functions}
use Rattle.qtt_closure.specs.Converted.{own_functions, all_after, all_flat, all_functions, branches_after, branches_flat, branches_functions}
use Rattle.qtt_closure.proofs.Starting.{after-from}
use Rattle.qtt_closure.proofs.Marking.{or-false}

-- ---- a function mentions what its body mentions behind its argument
pub fun_captures : (Γ : Slots) (b : Lean) (i : ℕ) → captures i (Fun b) Γ ≡ captures (suc i) b Γ
fun_captures [] b i = refl
fun_captures (s ∷ Γ) b i =
    ap₂ (λ c Δ. cond c Slot.filled Slot.gone ∷ Δ) (or-false (mentions (suc i) b)) (fun_captures Γ b (suc i))

pub thunk_captures : (Γ : Slots) (b : Lean) (i : ℕ) → captures i (Thunk b) Γ ≡ captures i b Γ
thunk_captures [] b i = refl
thunk_captures (s ∷ Γ) b i =
    ap₂ (λ c Δ. cond c Slot.filled Slot.gone ∷ Δ) (or-false (mentions i b)) (thunk_captures Γ b (suc i))

pub fun_flat : (n : ℕ) (Γ : Slots) (b : Lean) →
    flat n Γ (Fun b) ≡ closure_at n (captured (captures 1 b Γ) (place_at Γ) ∅)
fun_flat n Γ b = ap (λ Δ. closure_at n (captured Δ (place_at Γ) ∅)) (fun_captures Γ b 0)

pub thunk_flat : (n : ℕ) (Γ : Slots) (b : Lean) →
    flat n Γ (Thunk b) ≡ closure_at n (captured (captures 0 b Γ) (place_at Γ) ∅)
thunk_flat n Γ b = ap (λ Δ. closure_at n (captured Δ (place_at Γ) ∅)) (thunk_captures Γ b 0)

pub fun_functions : (n : ℕ) (Γ : Slots) (b : Lean) → functions n Γ (Fun b) ≡ own_functions n 1 (captures 1 b Γ) b
fun_functions n Γ b = ap (λ Δ. own_functions n 1 Δ b ++ []) (fun_captures Γ b 0) ∙
    append-nil (own_functions n 1 (captures 1 b Γ) b)

pub thunk_functions : (n : ℕ) (Γ : Slots) (b : Lean) → functions n Γ (Thunk b) ≡ own_functions n 0 (captures 0 b Γ) b
thunk_functions n Γ b = ap (λ Δ. own_functions n 0 Δ b ++ []) (thunk_captures Γ b 0) ∙
    append-nil (own_functions n 0 (captures 0 b Γ) b)

-- ---- components that are all evaluated
nothing-waits : (n : ℕ) (ns : List ℕ) (Γ : Slots) (ts : Leans) → waiting_functions n 0 ns Γ ts ≡ []
nothing-waits n ns Γ ∅ = refl
nothing-waits n ns Γ (t ◂ ts) = refl

list-after : (ts : List Lean) (n : ℕ) → afters n (side_by_side ts) ≡ all_after n ts
list-after [] n = refl
list-after (t ∷ ts) n = list-after ts (after n t)

list-flat : (ts : List Lean) (n m : ℕ) (Γ : Slots) → flats n m 0 [] Γ (side_by_side ts) ≡ side_by_side (all_flat n Γ ts)
list-flat [] n m Γ = refl
list-flat (t ∷ ts) n m Γ = ap (λ us. flat n Γ t ◂ us) (list-flat ts (after n t) m Γ)

list-functions : (ts : List Lean) (n : ℕ) (Γ : Slots) →
    evaluated_functions n 0 [] Γ (side_by_side ts) ≡ all_functions n Γ ts
list-functions [] n Γ = refl
list-functions (t ∷ ts) n Γ = ap (λ Fs. functions n Γ t ++ Fs) (list-functions ts (after n t) Γ)

all-functions : (ts : List Lean) (n : ℕ) (Γ : Slots) →
    evaluated_functions n 0 [] Γ (side_by_side ts) ++ waiting_functions (afters n (side_by_side ts)) 0 [] Γ
    (side_by_side ts) ≡ all_functions n Γ ts
all-functions ts n Γ =
    ap (λ Fs. evaluated_functions n 0 [] Γ (side_by_side ts) ++ Fs)
    (nothing-waits (afters n (side_by_side ts)) [] Γ (side_by_side ts))
    ∙ append-nil (evaluated_functions n 0 [] Γ (side_by_side ts)) ∙ list-functions ts n Γ

module _ (n : ℕ) (Γ : Slots) where
  pub con_flat : (c : ℕ) (ts : List Lean) → flat n Γ (Con c (side_by_side ts)) ≡ Con c (side_by_side (all_flat n Γ ts))
  con_flat c ts = ap (Tree.node (Operator.con c)) (list-flat ts n (afters n (side_by_side ts)) Γ)

  pub call_flat : (p : Primitive) (ts : List Lean) →
      flat n Γ (Call p (side_by_side ts)) ≡ Call p (side_by_side (all_flat n Γ ts))
  call_flat p ts = ap (Tree.node (Operator.prim p)) (list-flat ts n (afters n (side_by_side ts)) Γ)

  pub act_flat : (a : Action) (ts : List Lean) →
      flat n Γ (Act a (side_by_side ts)) ≡ Act a (side_by_side (all_flat n Γ ts))
  act_flat a ts = ap (Tree.node (Operator.act a)) (list-flat ts n (afters n (side_by_side ts)) Γ)

  pub con_functions : (c : ℕ) (ts : List Lean) → functions n Γ (Con c (side_by_side ts)) ≡ all_functions n Γ ts
  con_functions c ts = all-functions ts n Γ

  pub call_functions : (p : Primitive) (ts : List Lean) →
      functions n Γ (Call p (side_by_side ts)) ≡ all_functions n Γ ts
  call_functions p ts = all-functions ts n Γ

  pub act_functions : (a : Action) (ts : List Lean) → functions n Γ (Act a (side_by_side ts)) ≡ all_functions n Γ ts
  act_functions a ts = all-functions ts n Γ

  pub app_functions : (f a : Lean) → functions n Γ (App f a) ≡ functions n Γ f ++ functions (after n f) Γ a
  app_functions f a = append-nil (functions n Γ f ++ (functions (after n f) Γ a ++ [])) ∙
      ap (λ Fs. functions n Γ f ++ Fs) (append-nil (functions (after n f) Γ a))

  pub force_functions : (f : Lean) → functions n Γ (Force f) ≡ functions n Γ f
  force_functions f = append-nil (functions n Γ f ++ []) ∙ append-nil (functions n Γ f)

  pub con_after : (c : ℕ) (ts : List Lean) → after n (Con c (side_by_side ts)) ≡ all_after n ts
  con_after c ts = list-after ts n

  pub call_after : (p : Primitive) (ts : List Lean) → after n (Call p (side_by_side ts)) ≡ all_after n ts
  call_after p ts = list-after ts n

  pub act_after : (a : Action) (ts : List Lean) → after n (Act a (side_by_side ts)) ≡ all_after n ts
  act_after a ts = list-after ts n

-- ---- branches and a scrutinee
abbrev case_components : List (ℕ × Lean) → Lean → Leans
case_components bs s = side_by_side (map (λ b. b.1) bs) ◂◂ s ◂ ∅

abbrev case_of : List (ℕ × Lean) → Lean → Lean
case_of bs s = Tree.node (Operator.case (map (λ b. b.0) bs)) (case_components bs s)

branches-skipped : (bs : List (ℕ × Lean)) (s : Lean) → skip (length (map (λ b. b.0) bs)) (case_components bs s) ≡ s ◂ ∅
branches-skipped [] s = refl
branches-skipped (b ∷ bs) s = branches-skipped bs s

branches-after : (bs : List (ℕ × Lean)) (s : Lean) (n : ℕ) →
    afters n (case_components bs s) ≡ branches_after (after n s) bs
branches-after [] s n = refl
branches-after (b ∷ bs) s n =
    let e : after (after n b.1) s ≡ after (after n s) b.1 = let p = after-from s (after n b.1) in let q =
    after-from b.1 n in let r = after-from b.1 (after n s) in let t =
    after-from s n in omega (arith, p, q, r, t) in
    branches-after bs s (after n b.1) ∙ ap (λ m. branches_after m bs) e

branches-flat : (bs : List (ℕ × Lean)) (s : Lean) (n m : ℕ) (Γ : Slots) →
    flats n m (length (map (λ b. b.0) bs)) (map (λ b. b.0) bs) Γ (case_components bs s) ≡ side_by_side
    (map (λ b. b.1) (branches_flat m Γ bs)) ◂◂ flat n Γ s ◂ ∅
branches-flat [] s n m Γ = refl
branches-flat (b ∷ bs) s n m Γ = ap (λ us. flat m (bound b.0 Γ) b.1 ◂ us) (branches-flat bs s n (after m b.1) Γ)

branches-binders : (bs : List (ℕ × Lean)) (m : ℕ) (Γ : Slots) →
    map (λ b. b.0) bs ≡ map (λ b. b.0) (branches_flat m Γ bs)
branches-binders [] m Γ = refl
branches-binders (b ∷ bs) m Γ = ap (λ ns. b.0 ∷ ns) (branches-binders bs (after m b.1) Γ)

scrutinee-functions : (bs : List (ℕ × Lean)) (s : Lean) (n : ℕ) (Γ : Slots) →
    evaluated_functions n (length (map (λ b. b.0) bs)) (map (λ b. b.0) bs) Γ (case_components bs s) ≡ functions n Γ s
scrutinee-functions [] s n Γ = append-nil (functions n Γ s)
scrutinee-functions (b ∷ bs) s n Γ = scrutinee-functions bs s n Γ

branches-functions : (bs : List (ℕ × Lean)) (s : Lean) (m : ℕ) (Γ : Slots) →
    waiting_functions m (length (map (λ b. b.0) bs)) (map (λ b. b.0) bs) Γ
    (case_components bs s) ≡ branches_functions m Γ bs
branches-functions [] s m Γ = refl
branches-functions (b ∷ bs) s m Γ =
    ap (λ Fs. functions m (bound b.0 Γ) b.1 ++ Fs) (branches-functions bs s (after m b.1) Γ)

module _ (n : ℕ) (Γ : Slots) (bs : List (ℕ × Lean)) (s : Lean) where
  pub case_flat : flat n Γ (case_of bs s)
      ≡ Tree.node (Operator.case (map (λ b. b.0) (branches_flat (after n s) Γ bs)))
      (side_by_side (map (λ b. b.1) (branches_flat (after n s) Γ bs)) ◂◂ flat n Γ s ◂ ∅)
  case_flat =
      ap (λ m. Tree.node (Operator.case (map (λ b. b.0) bs))
      (flats n m (length (map (λ b. b.0) bs)) (map (λ b. b.0) bs) Γ (case_components bs s)))
      (ap (afters n) (branches-skipped bs s))
      ∙ ap₂ (λ ns us. Tree.node (Operator.case ns) us) (branches-binders bs (after n s) Γ)
      (branches-flat bs s n (after n s) Γ)

  pub case_functions : functions n Γ (case_of bs s) ≡ functions n Γ s ++ branches_functions (after n s) Γ bs
  case_functions =
      ap₂ ◌++◌ (scrutinee-functions bs s n Γ)
      (ap (λ m. waiting_functions m (length (map (λ b. b.0) bs)) (map (λ b. b.0) bs) Γ (case_components bs s))
      (ap (afters n) (branches-skipped bs s))
      ∙ branches-functions bs s (after n s) Γ)

  pub case_after : after n (case_of bs s) ≡ branches_after (after n s) bs
  case_after = branches-after bs s n

-- ---- a function is put where its place was kept
pub put_back : {C : Type 0} (f : C → Function) (before behind : List C) (n : ℕ) (kept : Function) (own : C)
    (Fs : List Function) →
    length before ≡ n → map f behind ≡ (map f before ++ kept ∷ []) ++ Fs →
    map f (set behind n own) ≡ map f before ++ f own ∷ Fs
put_back f before behind n kept own Fs p e =
    map-set f behind n own ∙ ap (λ Gs. set Gs n (f own)) (e ∙ append_assoc (map f before) (kept ∷ []) Fs)
    ∙ ap (λ k. set (map f before ++ kept ∷ Fs) k (f own)) (sym p ∙ sym (length-map before f)) ∙ set-append_seam
    (map f before) kept Fs (f own)

pub grows : (t : Lean) (n : ℕ) → n ≤ after n t
grows t n = let p = after-from t n in omega arith

-- what the functions of conversion want
pub ruleset conversions = (
  lean_lemmas.the_lemmas,
  flat_lemmas.the_lemmas,
  common_steps,
  append_assoc,
  fun_flat,
  thunk_flat,
  con_flat,
  call_flat,
  act_flat,
  case_flat,
  fun_functions,
  thunk_functions,
  con_functions,
  call_functions,
  act_functions,
  app_functions,
  force_functions,
  case_functions,
  con_after,
  call_after,
  act_after,
  case_after,
)
