-- Places of the variables in the code's scopes, and the captured ones among them.
use Rattle.std.proofs.Common.{◌≡◌, ℕ, zero, suc, ◌+◌, ◌-◌, ◌<◌, ◌≤◌, List, [], ◌∷◌, ◌++◌, Bool, true, false, cond, length, take, get_or, refl, sym, ◌∙◌, ap, arith, ◌⊎◌, inl, inr}
use Rattle.std.specs.List.{count_by}
use Rattle.std.proofs.lemmas.List.Sums.{sum_by-cons}
use Rattle.std.proofs.lemmas.Grind.{common_steps}
use Rattle.qtt_erase.specs.Binding.{Tree, ∅, ◌◂◌, ◌◂◂◌, size}
use Rattle.qtt_erase.specs.Erasure.{Slot, Slots, place_at, places}
use Rattle.qtt_erase.specs.View.{side_by_side}
use Rattle.qtt_closure.specs.Flat.{Closure, FlatTerm, FlatTerms}
use Rattle.qtt_closure.specs.Conversion.{bound, captured}
use Rattle.qtt_closure.specs.Scopes.{slot_list}
use Rattle.qtt_closure.proofs.Starting.{captured-append, captured-places}

pub bound_length : (n : ℕ) (Γ : Slots) → length (bound n Γ) ≡ length Γ + n
bound_length zero Γ = omega arith
bound_length (suc n) Γ = let p = bound_length n (Slot.filled ∷ Γ) in omega arith

-- ---- a variable among those that are bound
older : (n k : ℕ) (Γ : Slots) → place_at (bound n Γ) (n + k) ≡ n + place_at Γ k
older zero k Γ = let e : 0 + k ≡ k = omega arith in ap (place_at Γ) e ∙ sym (zero_more (place_at Γ k))
  where
    zero_more : (m : ℕ) → 0 + m ≡ m
    zero_more m = omega arith
older (suc n) k Γ =
    let e : suc n + k ≡ n + suc k = omega arith in
    let p = older n (suc k) (Slot.filled ∷ Γ) in
    ap (place_at (bound n (Slot.filled ∷ Γ))) e ∙ p ∙ one_more n (place_at Γ k)
  where
    one_more : (m p : ℕ) → m + suc p ≡ suc m + p
    one_more m p = omega arith

pub place_older : (n i : ℕ) (Γ : Slots) → n ≤ i → place_at (bound n Γ) i ≡ n + place_at Γ (i - n)
place_older n i Γ h = let e : i ≡ n + (i - n) = omega arith in ap (place_at (bound n Γ)) e ∙ older n (i - n) Γ

pub place_newer : (n i : ℕ) (Γ : Slots) → i < n → place_at (bound n Γ) i ≡ i
place_newer zero i Γ h = absurd (omega arith)
place_newer (suc n) i Γ h = elim (cases i n h) [ inl p ↦ place_newer n i (Slot.filled ∷ Γ) p | inr e ↦ last e ]
  where
    cases : (i n : ℕ) → i < suc n → (i < n) ⊎ (i ≡ n)
    cases i n h = grind arith

    last : i ≡ n → place_at (bound n (Slot.filled ∷ Γ)) i ≡ i
    last e = let q : i ≡ n + 0 = omega arith in let r : n + 0 ≡ i =
        omega arith in ap (place_at (bound n (Slot.filled ∷ Γ))) q ∙ older n 0 (Slot.filled ∷ Γ) ∙ r

-- ---- a variable among those around the function
pub place_counted : (bs : List Bool) (i : ℕ) → place_at (slot_list bs) i ≡ count_by (λ b. b) (take i bs)
place_counted [] zero = refl
place_counted [] (suc i) = refl
place_counted (b ∷ bs) zero = refl
place_counted (true ∷ bs) (suc i) = let p = place_counted bs i in let q =
    sum_by-cons (λ b. cond b 1 0) true (take i bs) in omega (arith, p, q)
place_counted (false ∷ bs) (suc i) = let p = place_counted bs i in let q =
    sum_by-cons (λ b. cond b 1 0) false (take i bs) in omega (arith, p, q)

-- ---- the captured variables from number k on, the outermost first
abbrev pub captured_from : ℕ → Slots → (ℕ → ℕ) → FlatTerms
captured_from zero Δ place = captured Δ place ∅
captured_from (suc k) [] place = ∅
captured_from (suc k) (s ∷ Δ) place = captured_from k Δ (λ i. place (suc i))

pub none_captured : (bs : List Bool) (place : ℕ → ℕ) (n : ℕ) → n ≡ length bs → captured_from n (slot_list bs) place ≡ ∅
none_captured bs place n e = ap (λ k. captured_from k (slot_list bs) place) e ∙ go bs place
  where
    go : (bs : List Bool) (place : ℕ → ℕ) → captured_from (length bs) (slot_list bs) place ≡ ∅
    go [] place = refl
    go (b ∷ bs) place = go bs (λ i. place (suc i))

-- with the next inner one, if it is captured
next_captured : (bs : List Bool) (k : ℕ) (d : Bool) (place : ℕ → ℕ) → k < length bs →
    captured_from k (slot_list bs) place
    ≡ cond (get_or bs k d) (captured_from (suc k) (slot_list bs) place ◂◂ Tree.var (place k) ◂ ∅)
    (captured_from (suc k) (slot_list bs) place)
next_captured [] k d place h = absurd (omega arith)
next_captured (true ∷ bs) zero d place h = captured-append (slot_list bs) (λ i. place (suc i)) (Tree.var (place 0) ◂ ∅)
next_captured (false ∷ bs) zero d place h = refl
next_captured (b ∷ bs) (suc k) d place h = next_captured bs k d (λ i. place (suc i)) (omega arith)

-- ---- the loop over the variables, which has come down to number k
came_down : (k : ℕ) → 0 < k → suc (k - 1) ≡ k
came_down k h = omega arith

pub skip_captured : (bs : List Bool) (k : ℕ) (d : Bool) (place : ℕ → ℕ) (us : List FlatTerm) → 0 < k →
    k - 1 < length bs →
    get_or bs (k - 1) d ≡ false → side_by_side us ≡ captured_from k (slot_list bs) place →
    side_by_side us ≡ captured_from (k - 1) (slot_list bs) place
skip_captured bs k d place us h l e q =
    q ∙ ap (λ n. captured_from n (slot_list bs) place) (sym (came_down k h))
    ∙ sym (next_captured bs (k - 1) d place l
    ∙ ap (λ b. cond b (captured_from (suc (k - 1)) (slot_list bs) place ◂◂ Tree.var (place (k - 1)) ◂ ∅)
    (captured_from (suc (k - 1)) (slot_list bs) place)) e)

pub side_append : (us vs : List FlatTerm) → side_by_side (us ++ vs) ≡ side_by_side us ◂◂ side_by_side vs
side_append [] vs = refl
side_append (u ∷ us) vs = ap (λ ws. u ◂ ws) (side_append us vs)

pub push_captured : (bs : List Bool) (k : ℕ) (d : Bool) (place : ℕ → ℕ) (us : List FlatTerm) (p : ℕ) → 0 < k →
    k - 1 < length bs →
    get_or bs (k - 1) d ≡ true → p ≡ place (k - 1) → side_by_side us ≡ captured_from k (slot_list bs) place →
    side_by_side (us ++ Tree.var p ∷ []) ≡ captured_from (k - 1) (slot_list bs) place
push_captured bs k d place us p h l e r q =
    side_append us (Tree.var p ∷ []) ∙ ap (λ n. side_by_side us ◂◂ Tree.var n ◂ ∅) r
    ∙ ap (λ vs. vs ◂◂ Tree.var (place (k - 1)) ◂ ∅)
    (q ∙ ap (λ n. captured_from n (slot_list bs) place) (sym (came_down k h)))
    ∙ sym (next_captured bs (k - 1) d place l
    ∙ ap (λ b. cond b (captured_from (suc (k - 1)) (slot_list bs) place ◂◂ Tree.var (place (k - 1)) ◂ ∅)
    (captured_from (suc (k - 1)) (slot_list bs) place)) e)

side_size : (us : List FlatTerm) → size (side_by_side us) ≡ length us
side_size [] = refl
side_size (u ∷ us) = ap suc (side_size us)

pub captured_count : (us : List FlatTerm) (Δ : Slots) (place : ℕ → ℕ) → side_by_side us ≡ captured Δ place ∅ →
    length us ≡ places Δ
captured_count us Δ place e = sym (side_size us) ∙ ap size e ∙ captured-places Closure Δ place

-- what the functions over scopes want
pub ruleset scopings = (common_steps, bound_length, place_older, place_newer, place_counted)
