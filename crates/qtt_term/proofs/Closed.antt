-- Terms in which no variable from some number on is free.
use Rattle.std.proofs.Common.{◌≡◌, ℕ, zero, suc, ◌+◌, ◌<◌, List, refl, ap, arith}
use mathlib.Core.Path.{ap₂}
use Rattle.qtt_term.specs.Term.{binders, first, rest, Term, Terms, var, node, ε, ◌▸◌}
use Rattle.qtt_term.specs.Substitution.{ren, sub, subs, lift, lifts, Below, AllBelow, Closed}

-- σ keeps the variables below n
abbrev Keeps : ℕ → (ℕ → Term) → Type 0
Keeps n σ = (i : ℕ) → i < n → σ i ≡ var i

lift-keeps : (n : ℕ) (σ : ℕ → Term) → Keeps n σ → Keeps (suc n) (lift σ)
lift-keeps n σ h zero p = refl
lift-keeps n σ h (suc i) p = ap (ren suc) (h i (omega arith))

lifts-keeps : (m n : ℕ) (σ : ℕ → Term) → Keeps n σ → Keeps (m + n) (lifts m σ)
lifts-keeps zero n σ h i p = h i (omega arith)
lifts-keeps (suc m) n σ h i p = lifts-keeps m (suc n) (lift σ) (lift-keeps n σ h) i (omega arith)

mutual
  kept : (t : Term) (n : ℕ) (σ : ℕ → Term) → Keeps n σ → Below n t → sub σ t ≡ t
  kept (var i) n σ h b = h i b
  kept (node F ts) n σ h b = ap (node F) (all-kept ts (binders F) n σ h b)

  all-kept : (ts : Terms) (ns : List ℕ) (n : ℕ) (σ : ℕ → Term) → Keeps n σ → AllBelow ns n ts → subs ns σ ts ≡ ts
  all-kept ε ns n σ h b = refl
  all-kept (t ▸ ts) ns n σ h b =
      ap₂ ◌▸◌ (kept t (first ns + n) (lifts (first ns) σ) (lifts-keeps (first ns) n σ h) b.0)
      (all-kept ts (rest ns) n σ h b.1)

-- a substitution that keeps the variables of a term keeps the term
pub below-kept : (n : ℕ) (σ : ℕ → Term) (t : Term) → ((i : ℕ) → i < n → σ i ≡ var i) → Below n t → sub σ t ≡ t
below-kept n σ t h b = kept t n σ h b

-- no substitution changes a closed term
pub closed-kept : (t : Term) → Closed t → (σ : ℕ → Term) → sub σ t ≡ t
closed-kept t c σ = kept t 0 σ (λ i p. absurd (omega arith)) c
