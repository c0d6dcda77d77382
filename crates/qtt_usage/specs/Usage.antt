-- The uses of a context's variables as a list, the newest variable first.
use Rattle.std.specs.Prelude.{◌≡◌, ℕ, zero, suc, List, [], ◌∷◌, map, replicate, slice_set, refl}
use Rattle.std.specs.List.{zip}
use Rattle.qtt_usage.specs.declared.mult.Mult.{Mult}
use Rattle.qtt_usage.specs.Mult.{𝟘, 𝟙, ω, ◌⊕◌, ◌⊙◌, join}
use Rattle.qtt_usage.specs.Uses.{Key, Use}

-- sum, join and scaling go entry by entry
abbrev pub usage_sum : List Mult → List Mult → List Mult
usage_sum us ws = map (λ p. p.0 ⊕ p.1) (zip us ws)

abbrev pub usage_join : List Mult → List Mult → List Mult
usage_join us ws = map (λ p. join p.0 p.1) (zip us ws)

abbrev pub usage_scale : Mult → List Mult → List Mult
usage_scale q us = map (λ u. q ⊙ u) us

-- no use of any of n variables
abbrev pub no_usage : ℕ → List Mult
no_usage n = replicate n 𝟘

-- one use of variable i of n
abbrev pub usage_unit : ℕ → ℕ → List Mult
usage_unit n i = slice_set (no_usage n) i 𝟙

-- the use of variable i, 0 past the end
abbrev pub usage_at : List Mult → ℕ → Mult
usage_at [] i = 𝟘
usage_at (u ∷ us) zero = u
usage_at (u ∷ us) (suc i) = usage_at us i

-- the list as a use vector: no tape is used
abbrev pub use_of : List Mult → Use
use_of us (Key.v i) = usage_at us i
use_of us (Key.h j) = 𝟘

-- worked examples
two_uses : usage_sum (𝟘 ∷ 𝟙 ∷ 𝟙 ∷ []) (𝟙 ∷ 𝟘 ∷ 𝟙 ∷ []) ≡ 𝟙 ∷ 𝟙 ∷ ω ∷ []
two_uses = refl

two_branches : usage_join (𝟘 ∷ 𝟙 ∷ 𝟘 ∷ []) (𝟘 ∷ 𝟙 ∷ 𝟙 ∷ []) ≡ 𝟘 ∷ 𝟙 ∷ ω ∷ []
two_branches = refl

used_many_times : usage_scale ω (𝟘 ∷ 𝟙 ∷ ω ∷ []) ≡ 𝟘 ∷ ω ∷ ω ∷ []
used_many_times = refl

erased : usage_scale 𝟘 (𝟘 ∷ 𝟙 ∷ ω ∷ []) ≡ no_usage 3
erased = refl

second_of_three : usage_unit 3 1 ≡ 𝟘 ∷ 𝟙 ∷ 𝟘 ∷ []
second_of_three = refl
