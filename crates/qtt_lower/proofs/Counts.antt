-- How many blocks and instructions a program has: those of its definitions, whatever numbers their functions
-- have.
use Rattle.std.proofs.Common.{◌≡◌, ℕ, zero, suc, ◌+◌, List, [], ◌∷◌, ◌++◌, length, length-append, refl, sym, ◌∙◌, ap, arith}
use mathlib.Core.Path.{ap₂}
use Rattle.std.specs.List.{sum_by}
use Rattle.std.proofs.lemmas.List.{length-map}
use Rattle.std.proofs.lemmas.List.Sums.{sum_by-cons, sum_by-append}
use Rattle.qtt_base.specs.declared.place.GlobalId.{GlobalId}
use Rattle.qtt_term.specs.Term.{first, rest}
use Rattle.qtt_erase.specs.Binding.{Tree, ∅, ◌◂◌}
use Rattle.qtt_erase.specs.Operator.{Operator}
use Rattle.qtt_erase.specs.Lean.{Abstraction, Lean, Leans, binders, body_binders}
use Rattle.qtt_erase.specs.Erasure.{Slots}
use Rattle.qtt_closure.specs.Flat.{Function}
use Rattle.qtt_closure.specs.Conversion.{after, afters, skip, waiting, bound, captures, conversion, other, flat, flats, first_or_type, own_function, functions, evaluated_functions, waiting_functions}
use Rattle.qtt_closure.proofs.Starting.{advance, after-from, number-after}
use Rattle.qtt_code.specs.Instruction.{Position}
use Rattle.qtt_lower.specs.Lowering.{branches, branch_count, own_width, join_width, width, widths, branch_widths, block, blocks}
use Rattle.qtt_lower.specs.Programs.{Body, numbers_end, lowered, program_from, code_length, instructions}
use Rattle.qtt_lower.specs.Sizes.{body_width}
use Rattle.qtt_lower.proofs.Parts.{code-length}

-- ---- blocks
advanced : (Fs : List Function) (n : ℕ) → advance n Fs ≡ n + length Fs
advanced [] n = omega arith
advanced (F ∷ Fs) n = let p = advanced Fs (suc n) in omega (arith, p)

function-count : (n : ℕ) (Γ : Slots) (t : Lean) → length (functions n Γ t) ≡ after 0 t
function-count n Γ t = let p = advanced (functions n Γ t) n in let q = number-after t n Γ in let r =
    after-from t n in omega (arith, p, q, r)

-- so many numbers are taken
pub numbers-taken : (n : ℕ) (t : Lean) → numbers_end n t ≡ n + length (conversion 0 t)
numbers-taken n t = let p = function-count 1 [] t in let q = after-from t (suc n) in omega (arith, p, q)

flat-count : (n : ℕ) (t : Lean) → length (conversion n t) ≡ length (conversion 0 t)
flat-count n t = let p = function-count (suc n) [] t in let q = function-count 1 [] t in omega (arith, p, q)

-- ---- instructions: whatever number the first function has
mutual
  width-any : (t : Lean) (o : Position) (n m : ℕ) (Γ : Slots) → width o (flat n Γ t) ≡ width o (flat m Γ t)
  width-any (Tree.var i) o n m Γ = refl
  width-any (Tree.node (Operator.function a) ts) o n m Γ = refl
  width-any (Tree.node F ts) o n m Γ =
      ap₂ (λ x y. x + own_width o (other F) + y)
      (widths-any ts (branch_count (other F)) (binders F) n m (afters n (skip (waiting F) ts))
      (afters m (skip (waiting F) ts)) Γ)
      (branches-any ts o (branches (other F)) (binders F) n m (afters n (skip (waiting F) ts))
      (afters m (skip (waiting F) ts)) Γ)

  widths-any : (ts : Leans) (k : ℕ) (ns : List ℕ) (n m a b : ℕ) (Γ : Slots) →
      widths k (flats n a k ns Γ ts) ≡ widths k (flats m b k ns Γ ts)
  widths-any ∅ k ns n m a b Γ = refl
  widths-any (t ◂ ts) zero ns n m a b Γ =
      ap₂ ◌+◌ (width-any t Position.inner n m (bound (first ns) Γ))
      (widths-any ts zero (rest ns) (after n t) (after m t) a b Γ)
  widths-any (t ◂ ts) (suc k) ns n m a b Γ = widths-any ts k (rest ns) n m (after a t) (after b t) Γ

  branches-any : (ts : Leans) (o : Position) (js ns : List ℕ) (n m a b : ℕ) (Γ : Slots) →
      branch_widths o js (flats n a (length js) ns Γ ts) ≡ branch_widths o js (flats m b (length js) ns Γ ts)
  branches-any ts o [] ns n m a b Γ = refl
  branches-any ∅ o (j ∷ js) ns n m a b Γ = refl
  branches-any (t ◂ ts) o (j ∷ js) ns n m a b Γ =
      ap₂ (λ x y. x + join_width o j js + y) (width-any t o a b (bound (first ns) Γ))
      (branches-any ts o js (rest ns) n m (after a t) (after b t) Γ)

abbrev total : List Function → ℕ
total Fs = sum_by body_width Fs

total-append : (Fs Gs Fs' Gs' : List Function) → total Fs ≡ total Fs' → total Gs ≡ total Gs' →
    total (Fs ++ Gs) ≡ total (Fs' ++ Gs')
total-append Fs Gs Fs' Gs' p q = sum_by-append body_width Fs Gs ∙ ap₂ ◌+◌ p q ∙ sym (sum_by-append body_width Fs' Gs')

own-any : (a : Abstraction) (ts : Leans) (n m : ℕ) (ns : List ℕ) (Δ : Slots) →
    width Position.tail (first_or_type (flats n n 1 ns Δ ts)) ≡ width Position.tail
    (first_or_type (flats m m 1 ns Δ ts))
own-any a ∅ n m ns Δ = refl
own-any a (t ◂ ts) n m ns Δ = width-any t Position.tail n m (bound (first ns) Δ)

mutual
  total-any : (t : Lean) (n m : ℕ) (Γ : Slots) → total (functions n Γ t) ≡ total (functions m Γ t)
  total-any (Tree.var i) n m Γ = refl
  total-any (Tree.node (Operator.function a) ts) n m Γ =
      let Δ : Slots = captures 0 (Tree.node (Operator.function a) ts) Γ in
      let own : ℕ → List Function =
      λ k. own_function (Operator.function a) (Tree.node (Operator.function a) ts) Γ
      (flats k k 1 (body_binders a) Δ ts) in
      let now : ℕ → List Function = λ k. evaluated_functions k 1 (body_binders a) Δ ts in
      let later : ℕ → List Function = λ k. waiting_functions (afters k (skip 1 ts)) 1 (body_binders a) Δ ts in
      total-append (own (suc n) ++ now (suc n)) (later (suc n)) (own (suc m) ++ now (suc m)) (later (suc m))
      (total-append (own (suc n)) (now (suc n)) (own (suc m)) (now (suc m))
      (ap (λ w. 0 + w) (own-any a ts (suc n) (suc m) (body_binders a) Δ))
      (evaluated-any ts (suc n) (suc m) 1 (body_binders a) Δ))
      (waiting-any ts (afters (suc n) (skip 1 ts)) (afters (suc m) (skip 1 ts)) 1 (body_binders a) Δ)
  total-any (Tree.node F ts) n m Γ =
      total-append (evaluated_functions n (waiting F) (binders F) Γ ts)
      (waiting_functions (afters n (skip (waiting F) ts)) (waiting F) (binders F) Γ ts)
      (evaluated_functions m (waiting F) (binders F) Γ ts)
      (waiting_functions (afters m (skip (waiting F) ts)) (waiting F) (binders F) Γ ts)
      (evaluated-any ts n m (waiting F) (binders F) Γ)
      (waiting-any ts (afters n (skip (waiting F) ts)) (afters m (skip (waiting F) ts)) (waiting F) (binders F) Γ)

  evaluated-any : (ts : Leans) (n m k : ℕ) (ns : List ℕ) (Γ : Slots) →
      total (evaluated_functions n k ns Γ ts) ≡ total (evaluated_functions m k ns Γ ts)
  evaluated-any ∅ n m k ns Γ = refl
  evaluated-any (t ◂ ts) n m zero ns Γ =
      total-append (functions n (bound (first ns) Γ) t) (evaluated_functions (after n t) zero (rest ns) Γ ts)
      (functions m (bound (first ns) Γ) t) (evaluated_functions (after m t) zero (rest ns) Γ ts)
      (total-any t n m (bound (first ns) Γ)) (evaluated-any ts (after n t) (after m t) zero (rest ns) Γ)
  evaluated-any (t ◂ ts) n m (suc k) ns Γ = evaluated-any ts n m k (rest ns) Γ

  waiting-any : (ts : Leans) (n m k : ℕ) (ns : List ℕ) (Γ : Slots) →
      total (waiting_functions n k ns Γ ts) ≡ total (waiting_functions m k ns Γ ts)
  waiting-any ∅ n m k ns Γ = refl
  waiting-any (t ◂ ts) n m zero ns Γ = refl
  waiting-any (t ◂ ts) n m (suc k) ns Γ =
      total-append (functions n (bound (first ns) Γ) t) (waiting_functions (after n t) k (rest ns) Γ ts)
      (functions m (bound (first ns) Γ) t) (waiting_functions (after m t) k (rest ns) Γ ts)
      (total-any t n m (bound (first ns) Γ)) (waiting-any ts (after n t) (after m t) k (rest ns) Γ)

flat-total : (n : ℕ) (t : Lean) → total (conversion n t) ≡ total (conversion 0 t)
flat-total n t =
    sum_by-cons body_width (record { captured = 0; takes = 0; body = flat (suc n) [] t }) (functions (suc n) [] t)
    ∙ ap₂ ◌+◌ (width-any t Position.tail (suc n) 1 []) (total-any t (suc n) 1 [])
    ∙ sym (sum_by-cons body_width (record { captured = 0; takes = 0; body = flat 1 [] t }) (functions 1 [] t))

-- ---- of a program
abbrev pub body_blocks : Body → ℕ
body_blocks b = length (conversion 0 b.term)

abbrev pub body_instructions : Body → ℕ
body_instructions b = sum_by body_width (conversion 0 b.term)

pub program-blocks : (e : GlobalId → ℕ) (n : ℕ) (bs : List Body) → length (program_from e n bs) ≡ sum_by body_blocks bs
program-blocks e n [] = refl
program-blocks e n (b ∷ bs) =
    length-append (lowered e n b) (program_from e (numbers_end n b.term) bs)
    ∙ ap₂ ◌+◌ (length-map (conversion n b.term) (block e b.id) ∙ flat-count n b.term)
    (program-blocks e (numbers_end n b.term) bs)
    ∙ sym (sum_by-cons body_blocks b bs)

block-codes : (e : GlobalId → ℕ) (d : GlobalId) (Fs : List Function) → instructions (blocks e d Fs) ≡ total Fs
block-codes e d [] = refl
block-codes e d (F ∷ Fs) =
    sum_by-cons code_length (block e d F) (blocks e d Fs) ∙
    ap₂ ◌+◌ (code-length e F.captured Position.tail (F.captured + F.takes) 0 F.body) (block-codes e d Fs)
    ∙ sym (sum_by-cons body_width F Fs)

pub program-instructions : (e : GlobalId → ℕ) (n : ℕ) (bs : List Body) →
    instructions (program_from e n bs) ≡ sum_by body_instructions bs
program-instructions e n [] = refl
program-instructions e n (b ∷ bs) =
    sum_by-append code_length (lowered e n b) (program_from e (numbers_end n b.term) bs)
    ∙ ap₂ ◌+◌ (block-codes e b.id (conversion n b.term) ∙ flat-total n b.term)
    (program-instructions e (numbers_end n b.term) bs)
    ∙ sym (sum_by-cons body_instructions b bs)
