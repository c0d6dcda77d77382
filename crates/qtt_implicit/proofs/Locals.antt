-- Text types of local names, by their numbers.
use Rattle.std.proofs.Common.{◌≡◌, ◌∙◌, refl, ap, ℕ, zero, suc, ◌+◌, ◌<◌, arith, [], ◌∷◌, ◌++◌, map, replicate}
use Rattle.qtt_syntax.specs.Tree.{Tree}
use Rattle.qtt_implicit.specs.Moving.{shifted, unknown}
use Rattle.qtt_implicit.specs.Walk.{Types, type_at}
use Rattle.qtt_implicit.proofs.Moves.{shifted_twice}

all_behind : (Γ : Types) (i : ℕ) → type_at (map (shifted 1) Γ) i ≡ shifted 1 (type_at Γ i)
all_behind [] i = refl
all_behind (T ∷ Γ) zero = refl
all_behind (T ∷ Γ) (suc i) = all_behind Γ i

twice : (m : ℕ) (T : Tree) → shifted m (shifted 1 T) ≡ shifted (suc m) T
twice m T = let e : 1 + m ≡ suc m = omega arith in shifted_twice m 1 T ∙ ap (λ (k : ℕ). shifted k T) e

pub first_behind : (m i : ℕ) (T : Tree) (Γ : Types) → i ≡ 0 →
    shifted m (type_at (map (shifted 1) (T ∷ Γ)) i) ≡ shifted (suc m) T
first_behind m i T Γ e =
    ap (λ (k : ℕ). shifted m (type_at (map (shifted 1) (T ∷ Γ)) k)) e ∙ twice m T

pub later_behind : (m i j : ℕ) (T : Tree) (Γ : Types) → i ≡ suc j →
    shifted m (type_at (map (shifted 1) (T ∷ Γ)) i) ≡ shifted (suc m) (type_at Γ j)
later_behind m i j T Γ e =
    ap (λ (k : ℕ). shifted m (type_at (map (shifted 1) (T ∷ Γ)) k)) e
    ∙ ap (shifted m) (all_behind Γ j) ∙ twice m (type_at Γ j)

pub unmet : (n i : ℕ) (Γ : Types) → i < n → type_at (replicate n unknown ++ Γ) i ≡ unknown
unmet zero i Γ h = absurd (omega arith)
unmet (suc n) zero Γ h = refl
unmet (suc n) (suc i) Γ h = unmet n i Γ (omega arith)

pub met : (n i j : ℕ) (Γ : Types) → i ≡ n + j → type_at (replicate n unknown ++ Γ) i ≡ type_at Γ j
met zero i j Γ h = let e : i ≡ j = omega arith in ap (λ (k : ℕ). type_at Γ k) e
met (suc n) zero j Γ h = absurd (omega arith)
met (suc n) (suc i) j Γ h = met n i j Γ (omega arith)
