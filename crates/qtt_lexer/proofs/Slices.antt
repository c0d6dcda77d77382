-- The first item of a slice and those behind it.
use Rattle.std.proofs.Common.{◌≡◌, ℕ, ◌-◌, ◌≤◌, List, [], ◌∷◌, length, take, drop, get_or, sym, ap, ◌∙◌, arith}
use Rattle.std.proofs.lemmas.List.{take_rest}

-- as a pattern of the first item binds them
pub first_and_rest : (cs : List ℕ) (c : ℕ) → 1 ≤ length cs → c ≡ get_or cs 0 c →
    cs ≡ c ∷ take (length cs - 1) (drop 1 cs)
first_and_rest [] c lt e = absurd (omega (arith, lt))
first_and_rest (x ∷ xs) c lt e =
    ap (λ (y : ℕ). y ∷ xs) (sym e) ∙ ap (λ (ys : List ℕ). c ∷ ys) (sym (take_rest (x ∷ xs) 1))
