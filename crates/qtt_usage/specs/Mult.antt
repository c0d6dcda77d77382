-- Multiplicities: sum, product, join, and the order of permitted use.
use Rattle.std.specs.Prelude.{◌≡◌, Bool, true, false, T, refl}
use Rattle.std.proofs.Common.{subst}
use Rattle.qtt_usage.specs.declared.mult.Mult.{Mult}
use Rattle.qtt_usage.specs.declared.mult.Mult.TheVariants.{Zero, One, Many}

pattern abbrev pub 𝟘 : Mult
𝟘 = Zero

pattern abbrev pub 𝟙 : Mult
𝟙 = One

pattern abbrev pub ω : Mult
ω = Many

infixl 60 ◌⊕◌
infixl 70 ◌⊙◌
infix 40 ◌≼◌
-- what two uses make together
abbrev pub ◌⊕◌ : Mult → Mult → Mult
𝟘 ⊕ y = y
𝟙 ⊕ 𝟘 = 𝟙
𝟙 ⊕ 𝟙 = ω
𝟙 ⊕ ω = ω
ω ⊕ y = ω

-- a use inside what is itself used so often
abbrev pub ◌⊙◌ : Mult → Mult → Mult
𝟘 ⊙ y = 𝟘
𝟙 ⊙ y = y
ω ⊙ 𝟘 = 𝟘
ω ⊙ 𝟙 = ω
ω ⊙ ω = ω

-- the use of two branches, one of which is taken
abbrev pub join : Mult → Mult → Mult
join 𝟘 𝟘 = 𝟘
join 𝟙 𝟙 = 𝟙
join _ _ = ω

-- whether a use fits a declaration: each fits itself, and all fit many
abbrev pub fits : Mult → Mult → Bool
fits 𝟘 𝟙 = false
fits 𝟙 𝟘 = false
fits ω 𝟘 = false
fits ω 𝟙 = false
fits _ _ = true

-- the order of permitted use
abbrev pub ◌≼◌ : Mult → Mult → Type 0
x ≼ y = T (fits x y)

abbrev pub same_mult : Mult → Mult → Bool
same_mult 𝟘 𝟘 = true
same_mult 𝟙 𝟙 = true
same_mult ω ω = true
same_mult _ _ = false

-- what is equal passes the test
pub equal_are_same : (x y : Mult) → x ≡ y → T (same_mult x y)
equal_are_same x y e = subst (λ z. T (same_mult x z)) e (same_itself x)
  where
    same_itself : (a : Mult) → T (same_mult a a)
    same_itself Zero = tt
    same_itself One = tt
    same_itself Many = tt

-- equality of multiplicities is decided
abbrev pub mult_discrete : Discrete Mult
mult_discrete Zero Zero = yes refl
mult_discrete Zero One = no (λ e. equal_are_same Zero One e)
mult_discrete Zero Many = no (λ e. equal_are_same Zero Many e)
mult_discrete One Zero = no (λ e. equal_are_same One Zero e)
mult_discrete One One = yes refl
mult_discrete One Many = no (λ e. equal_are_same One Many e)
mult_discrete Many Zero = no (λ e. equal_are_same Many Zero e)
mult_discrete Many One = no (λ e. equal_are_same Many One e)
mult_discrete Many Many = yes refl

-- worked examples
used_twice : 𝟙 ⊕ 𝟙 ≡ ω
used_twice = refl

erased_use_of_many : 𝟘 ⊙ ω ≡ 𝟘
erased_use_of_many = refl

used_in_one_branch : join 𝟙 𝟘 ≡ ω
used_in_one_branch = refl

used_in_each_branch : join 𝟙 𝟙 ≡ 𝟙
used_in_each_branch = refl

unused_is_not_linear : fits 𝟘 𝟙 ≡ false
unused_is_not_linear = refl

unused_fits_many : fits 𝟘 ω ≡ true
unused_fits_many = refl
