-- What the parts of the code's terms are converted to, in the words of the code's lists.
use Rattle.std.specs.Prelude.{ℕ, suc, List, [], ◌∷◌, ◌++◌}
use Rattle.qtt_erase.specs.Lean.{Lean}
use Rattle.qtt_erase.specs.Erasure.{Slots, places}
use Rattle.qtt_closure.specs.Flat.{FlatTerm, Function}
use Rattle.qtt_closure.specs.Conversion.{after, bound, flat, functions}

-- a function with number n that has these of the variables around it, and the functions in it
abbrev pub own_functions : ℕ → ℕ → Slots → Lean → List Function
own_functions n takes Δ b =
    record { captured = places Δ; takes = takes; body = flat (suc n) (bound takes Δ) b } ∷ functions (suc n)
    (bound takes Δ) b

-- ---- terms, one behind the other
abbrev pub all_after : ℕ → List Lean → ℕ
all_after n [] = n
all_after n (t ∷ ts) = all_after (after n t) ts

abbrev pub all_flat : ℕ → Slots → List Lean → List FlatTerm
all_flat n Γ [] = []
all_flat n Γ (t ∷ ts) = flat n Γ t ∷ all_flat (after n t) Γ ts

abbrev pub all_functions : ℕ → Slots → List Lean → List Function
all_functions n Γ [] = []
all_functions n Γ (t ∷ ts) = functions n Γ t ++ all_functions (after n t) Γ ts

-- ---- branches, each under its fields
abbrev pub branches_after : ℕ → List (ℕ × Lean) → ℕ
branches_after n [] = n
branches_after n (b ∷ bs) = branches_after (after n b.1) bs

abbrev pub branches_flat : ℕ → Slots → List (ℕ × Lean) → List (ℕ × FlatTerm)
branches_flat n Γ [] = []
branches_flat n Γ (b ∷ bs) = (b.0, flat n (bound b.0 Γ) b.1) ∷ branches_flat (after n b.1) Γ bs

abbrev pub branches_functions : ℕ → Slots → List (ℕ × Lean) → List Function
branches_functions n Γ [] = []
branches_functions n Γ (b ∷ bs) = functions n (bound b.0 Γ) b.1 ++ branches_functions (after n b.1) Γ bs
