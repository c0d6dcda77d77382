-- Laws of multiplicities, each a finite table.
use Rattle.std.proofs.Common.{◌≡◌, T, arith}
use Rattle.qtt_usage.specs.declared.mult.Mult.{Mult}
use Rattle.qtt_usage.specs.Mult.{𝟘, 𝟙, ω, ◌⊕◌, ◌⊙◌, join, ◌≼◌, same_mult}

-- the sum is a commutative monoid
pub ⊕-zero : (a : Mult) → a ⊕ 𝟘 ≡ a
⊕-zero a = grind arith

pub zero-⊕ : (a : Mult) → 𝟘 ⊕ a ≡ a
zero-⊕ a = grind arith

pub ⊕-comm : (a b : Mult) → a ⊕ b ≡ b ⊕ a
⊕-comm a b = grind arith

pub ⊕-assoc : (a b c : Mult) → (a ⊕ b) ⊕ c ≡ a ⊕ (b ⊕ c)
⊕-assoc a b c = grind arith

pub ⊕-swap : (a b c d : Mult) → (a ⊕ b) ⊕ (c ⊕ d) ≡ (a ⊕ c) ⊕ (b ⊕ d)
⊕-swap a b c d = grind arith

-- so is the product
pub ⊙-one : (a : Mult) → a ⊙ 𝟙 ≡ a
⊙-one a = grind arith

pub one-⊙ : (a : Mult) → 𝟙 ⊙ a ≡ a
one-⊙ a = grind arith

pub ⊙-comm : (a b : Mult) → a ⊙ b ≡ b ⊙ a
⊙-comm a b = grind arith

pub ⊙-assoc : (q a b : Mult) → (q ⊙ a) ⊙ b ≡ q ⊙ (a ⊙ b)
⊙-assoc q a b = grind arith

-- the product distributes over the sum
pub ⊙-zero : (a : Mult) → a ⊙ 𝟘 ≡ 𝟘
⊙-zero a = grind arith

pub zero-⊙ : (a : Mult) → 𝟘 ⊙ a ≡ 𝟘
zero-⊙ a = grind arith

pub ⊙-⊕ : (q a b : Mult) → q ⊙ (a ⊕ b) ≡ q ⊙ a ⊕ q ⊙ b
⊙-⊕ q a b = grind arith

pub ⊕-⊙ : (a b c : Mult) → (a ⊕ b) ⊙ c ≡ a ⊙ c ⊕ b ⊙ c
⊕-⊙ a b c = grind arith

-- the order
pub ≼-refl : (a : Mult) → a ≼ a
≼-refl a = grind arith

pub ≼-trans : (a b c : Mult) → a ≼ b → b ≼ c → a ≼ c
≼-trans a b c h k = grind arith

pub ≼-antisym : (a b : Mult) → a ≼ b → b ≼ a → a ≡ b
≼-antisym a b h k = grind arith

pub ≼-many : (a : Mult) → a ≼ ω
≼-many a = grind arith

pub ≼-one : (a : Mult) → a ≼ 𝟙 → a ≡ 𝟙
≼-one a h = grind arith

pub ≼-zero : (a : Mult) → a ≼ 𝟘 → a ≡ 𝟘
≼-zero a h = grind arith

-- sum, product and join keep the order
pub ⊕-mono : (a a' b b' : Mult) → a ≼ a' → b ≼ b' → a ⊕ b ≼ a' ⊕ b'
⊕-mono a a' b b' h k = grind arith

pub ⊙-mono : (a a' b : Mult) → a ≼ a' → a ⊙ b ≼ a' ⊙ b
⊙-mono a a' b h = grind arith

pub ⊙-mono-right : (q b b' : Mult) → b ≼ b' → q ⊙ b ≼ q ⊙ b'
⊙-mono-right q b b' h = grind arith

pub ⊙-mono-both : (a a' b b' : Mult) → a ≼ a' → b ≼ b' → a ⊙ b ≼ a' ⊙ b'
⊙-mono-both a a' b b' h k = grind arith

pub join-mono : (a a' b b' : Mult) → a ≼ a' → b ≼ b' → join a b ≼ join a' b'
join-mono a a' b b' h k = grind arith

-- the join is the least use above both
pub ≼-join-left : (a b : Mult) → a ≼ join a b
≼-join-left a b = grind arith

pub ≼-join-right : (a b : Mult) → b ≼ join a b
≼-join-right a b = grind arith

pub join-least : (a b c : Mult) → a ≼ c → b ≼ c → join a b ≼ c
join-least a b c h k = grind arith

pub join-self : (a : Mult) → join a a ≡ a
join-self a = grind arith

pub join-comm : (a b : Mult) → join a b ≡ join b a
join-comm a b = grind arith

pub join-assoc : (a b c : Mult) → join (join a b) c ≡ join a (join b c)
join-assoc a b c = grind arith

-- the join of two sums of a branch's own use and its share of another
pub join-law : (u₁ u₂ r₁ r₂ v : Mult) → join (u₁ ⊕ r₁ ⊙ v) (u₂ ⊕ r₂ ⊙ v) ≼ join u₁ u₂ ⊕ join r₁ r₂ ⊙ v
join-law u₁ u₂ r₁ r₂ v = grind arith

pub join-law' : (u₁ u₂ r₁ r₂ v : Mult) → join (r₁ ⊙ v ⊕ u₁) (r₂ ⊙ v ⊕ u₂) ≼ join r₁ r₂ ⊙ v ⊕ join u₁ u₂
join-law' u₁ u₂ r₁ r₂ v = grind arith

pub join-sum : (a b c d : Mult) → join (a ⊕ b) (c ⊕ d) ≼ join a c ⊕ join b d
join-sum a b c d = grind arith

pub join-scaled : (q a b : Mult) → join (q ⊙ a) (q ⊙ b) ≼ q ⊙ join a b
join-scaled q a b = grind arith

-- the test of equality
pub same-equal : (a b : Mult) → T (same_mult a b) → a ≡ b
same-equal a b h = grind arith
