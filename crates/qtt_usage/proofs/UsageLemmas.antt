-- A list of uses as a use vector, entry by entry.
use Rattle.std.proofs.Common.{◌≡◌, ℕ, zero, suc, ◌<◌, List, [], ◌∷◌, length, set, refl, sym, arith}
use mathlib.Core.Path.{fun_ext}
use Rattle.qtt_usage.specs.declared.mult.Mult.{Mult}
use Rattle.qtt_usage.specs.Mult.{𝟘, ◌⊕◌, ◌⊙◌, join}
use Rattle.qtt_usage.specs.Uses.{Key, zero_use, nat_unit, unit, out}
use Rattle.qtt_usage.specs.Usage.{usage_sum, usage_join, usage_scale, no_usage, usage_unit, usage_at, use_of}
use Rattle.qtt_usage.proofs.Mults.{⊕-zero, ⊙-one, ⊙-zero}

-- lists
usage_at-none : (n i : ℕ) → usage_at (no_usage n) i ≡ 𝟘
usage_at-none zero i = refl
usage_at-none (suc n) zero = refl
usage_at-none (suc n) (suc i) = usage_at-none n i

usage_at-unit : (n i j : ℕ) → i < n → usage_at (usage_unit n i) j ≡ nat_unit i j
usage_at-unit zero i j h = absurd (omega arith)
usage_at-unit (suc n) zero zero h = refl
usage_at-unit (suc n) zero (suc j) h = usage_at-none n j
usage_at-unit (suc n) (suc i) zero h = refl
usage_at-unit (suc n) (suc i) (suc j) h = usage_at-unit n i j (omega arith)

usage_at-sum : (us ws : List Mult) (i : ℕ) → length us ≡ length ws
    → usage_at (usage_sum us ws) i ≡ usage_at us i ⊕ usage_at ws i
usage_at-sum [] [] i k = refl
usage_at-sum [] (w ∷ ws) i k = absurd (omega arith)
usage_at-sum (u ∷ us) [] i k = absurd (omega arith)
usage_at-sum (u ∷ us) (w ∷ ws) zero k = refl
usage_at-sum (u ∷ us) (w ∷ ws) (suc i) k = usage_at-sum us ws i (omega arith)

usage_at-join : (us ws : List Mult) (i : ℕ) → length us ≡ length ws
    → usage_at (usage_join us ws) i ≡ join (usage_at us i) (usage_at ws i)
usage_at-join [] [] i k = refl
usage_at-join [] (w ∷ ws) i k = absurd (omega arith)
usage_at-join (u ∷ us) [] i k = absurd (omega arith)
usage_at-join (u ∷ us) (w ∷ ws) zero k = refl
usage_at-join (u ∷ us) (w ∷ ws) (suc i) k = usage_at-join us ws i (omega arith)

usage_at-scale : (q : Mult) (us : List Mult) (i : ℕ) → usage_at (usage_scale q us) i ≡ q ⊙ usage_at us i
usage_at-scale q [] i = sym (⊙-zero q)
usage_at-scale q (u ∷ us) zero = refl
usage_at-scale q (u ∷ us) (suc i) = usage_at-scale q us i

usage_at-taken : (us : List Mult) (i j : ℕ)
    → usage_at us j ≡ usage_at us i ⊙ nat_unit i j ⊕ usage_at (set us i 𝟘) j
usage_at-taken [] i j = refl
usage_at-taken (u ∷ us) zero zero = rw (⊙-one u) (sym (⊕-zero u))
usage_at-taken (u ∷ us) zero (suc j) = rw (⊙-zero u)
usage_at-taken (u ∷ us) (suc i) zero = rw (⊙-zero (usage_at us i))
usage_at-taken (u ∷ us) (suc i) (suc j) = usage_at-taken us i j

-- use vectors, at a key
pub none_at : (n : ℕ) (x : Key) → use_of (no_usage n) x ≡ 𝟘
none_at n (Key.v i) = usage_at-none n i
none_at n (Key.h i) = refl

pub unit_at : (n i : ℕ) (x : Key) → i < n → use_of (usage_unit n i) x ≡ unit (Key.v i) x
unit_at n i (Key.v j) h = usage_at-unit n i j h
unit_at n i (Key.h j) h = refl

pub sum_at : (us ws : List Mult) (x : Key) → length us ≡ length ws
    → use_of (usage_sum us ws) x ≡ use_of us x ⊕ use_of ws x
sum_at us ws (Key.v i) k = usage_at-sum us ws i k
sum_at us ws (Key.h i) k = refl

pub join_at : (us ws : List Mult) (x : Key) → length us ≡ length ws
    → use_of (usage_join us ws) x ≡ join (use_of us x) (use_of ws x)
join_at us ws (Key.v i) k = usage_at-join us ws i k
join_at us ws (Key.h i) k = refl

pub scale_at : (q : Mult) (us : List Mult) (x : Key) → use_of (usage_scale q us) x ≡ q ⊙ use_of us x
scale_at q us (Key.v i) = usage_at-scale q us i
scale_at q us (Key.h i) = sym (⊙-zero q)

pub out_at : (u : Mult) (us : List Mult) (x : Key) → out (use_of (u ∷ us)) x ≡ use_of us x
out_at u us (Key.v i) = refl
out_at u us (Key.h i) = refl

pub taken_at : (us : List Mult) (i : ℕ) (x : Key)
    → use_of us x ≡ use_of us (Key.v i) ⊙ unit (Key.v i) x ⊕ use_of (set us i 𝟘) x
taken_at us i (Key.v j) = usage_at-taken us i j
taken_at us i (Key.h j) = rw (⊙-zero (usage_at us i))

-- and as equations of use vectors
pub use_of-none : (n : ℕ) → use_of (no_usage n) ≡ zero_use
use_of-none n = fun_ext (none_at n)

pub use_of-unit : (n i : ℕ) → i < n → use_of (usage_unit n i) ≡ unit (Key.v i)
use_of-unit n i h = fun_ext λ x. unit_at n i x h

pub use_of-sum : (us ws : List Mult) → length us ≡ length ws
    → use_of (usage_sum us ws) ≡ (λ x. use_of us x ⊕ use_of ws x)
use_of-sum us ws k = fun_ext λ x. sum_at us ws x k

pub use_of-join : (us ws : List Mult) → length us ≡ length ws
    → use_of (usage_join us ws) ≡ (λ x. join (use_of us x) (use_of ws x))
use_of-join us ws k = fun_ext λ x. join_at us ws x k

pub use_of-scale : (q : Mult) (us : List Mult) → use_of (usage_scale q us) ≡ (λ x. q ⊙ use_of us x)
use_of-scale q us = fun_ext (scale_at q us)

pub out-use_of : (u : Mult) (us : List Mult) → out (use_of (u ∷ us)) ≡ use_of us
out-use_of u us = fun_ext (out_at u us)
