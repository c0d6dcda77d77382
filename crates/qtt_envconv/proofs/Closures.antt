-- Renamings and substitutions by what closures stand for.
use Rattle.std.proofs.Common.{◌≡◌, ℕ, zero, suc, ◌+◌, refl, sym, ◌∙◌, ap, arith}
use Rattle.qtt_term.specs.Term.{Term, var}
use Rattle.qtt_term.specs.Substitution.{ren, lift, sub, cons, shift}
use Rattle.qtt_term.proofs.Subst.{ren-is-sub, sub-sub, sub-along, sub-var}
use Rattle.qtt_term.proofs.Moves.{shift-add}

-- ---- renamings
ren-along : (ρ π : ℕ → ℕ) (t : Term) → ((i : ℕ) → ρ i ≡ π i) → ren ρ t ≡ ren π t
ren-along ρ π t same = ren-is-sub ρ t ∙ sub-along _ _ t (λ i. ap var (same i)) ∙ sym (ren-is-sub π t)

ren-then_ren : (ρ π : ℕ → ℕ) (t : Term) → ren ρ (ren π t) ≡ ren (λ i. ρ (π i)) t
ren-then_ren ρ π t =
    ren-is-sub ρ (ren π t) ∙ ap (sub (λ i. var (ρ i))) (ren-is-sub π t)
    ∙ sub-sub (λ i. var (ρ i)) (λ i. var (π i)) t ∙ sym (ren-is-sub (λ i. ρ (π i)) t)

pub sub-then_ren : (ρ : ℕ → ℕ) (σ : ℕ → Term) (t : Term) → sub (λ i. ren ρ (σ i)) t ≡ ren ρ (sub σ t)
sub-then_ren ρ σ t =
    sub-along _ _ t (λ i. ren-is-sub ρ (σ i)) ∙ sym (sub-sub (λ i. var (ρ i)) σ t) ∙ sym (ren-is-sub ρ (sub σ t))

-- under no binder more, and under binders behind binders
pub shift-none : (n : ℕ) (t : Term) → n ≡ 0 → ren (shift n) t ≡ t
shift-none zero t e = ren-is-sub (λ i. i) t ∙ sub-var t
shift-none (suc n) t e = absurd (omega arith)

pub shift-shift : (m n k : ℕ) (t : Term) → k ≡ m + n → ren (shift m) (ren (shift n) t) ≡ ren (shift k) t
shift-shift m n k t e =
    ren-then_ren (shift m) (shift n) t ∙ ren-along _ _ t
    (λ i. shift-add m (shift n i) ∙ ap (λ j. m + j) (shift-add n i) ∙ omega arith ∙ sym (shift-add k i))

pub shift-suc : (m k : ℕ) (t : Term) → k ≡ m + 1 → ren (shift m) (ren suc t) ≡ ren (shift k) t
shift-suc m k t e = shift-shift m 1 k t e

pub shift-var : (m i k : ℕ) → k ≡ i + m → var k ≡ ren (shift m) (var i)
shift-var m i k e = ap var (omega (arith, shift-add m i))

-- ---- values
pub lift-newest : (σ : ℕ → Term) (i : ℕ) → i ≡ 0 → lift σ i ≡ var 0
lift-newest σ zero e = refl
lift-newest σ (suc i) e = absurd (omega arith)

pub lift-older : (σ : ℕ → Term) (i j : ℕ) → i ≡ suc j → lift σ i ≡ ren suc (σ j)
lift-older σ zero j e = absurd (omega arith)
lift-older σ (suc i) j e = let same : i ≡ j = omega arith in ap (λ k. ren suc (σ k)) same

pub cons-newest : (t : Term) (σ : ℕ → Term) (i : ℕ) → i ≡ 0 → cons t σ i ≡ t
cons-newest t σ zero e = refl
cons-newest t σ (suc i) e = absurd (omega arith)

pub cons-older : (t : Term) (σ : ℕ → Term) (i j : ℕ) → i ≡ suc j → cons t σ i ≡ σ j
cons-older t σ zero j e = absurd (omega arith)
cons-older t σ (suc i) j e = let same : i ≡ j = omega arith in ap σ same
