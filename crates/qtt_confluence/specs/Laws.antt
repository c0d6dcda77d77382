-- The laws that the functions of this crate ensure.
use Rattle.std.specs.Prelude.{◌≡◌, ◌≢◌, ◌↔◌, ℕ, suc, ◌≤◌, List}
use Rattle.qtt_term.specs.Term.{Term}
use Rattle.qtt_term.specs.Signature.{Env}
use Rattle.qtt_term.specs.Contraction.{Reduces, Conv, BodiesClosed}
use Rattle.qtt_term.specs.Question.{Head, head, Item, Answer, within_count, compare}
use Rattle.qtt_confluence.specs.Injective.{Convs, Injective}
use Rattle.qtt_confluence.specs.Heads.{IsHead, Toward, outline, parts}
use Rattle.qtt_confluence.specs.Standard.{Standard, HasHeadLike}
use Rattle.qtt_confluence.specs.Comparison.{Comparison, answered, Compares, Compared}
use Rattle.qtt_confluence.specs.Examples.{ConversionTells, OtherContractions, TwoWays, ComparisonTells}

-- two convertible terms contract to a common term
abbrev pub ContractionIsConfluent : Type 0
ContractionIsConfluent = (E : Env) → BodiesClosed E → (t s : Term) → Conv E t s →
    (r : Term) × Reduces E t r × Reduces E s r

abbrev pub TypesAreInjective : Type 0
TypesAreInjective = (E : Env) → BodiesClosed E → Injective E

-- two heads, which are what `head` finds, with different forms or fixed parts are not convertible
abbrev pub RigidHeadsDiffer : Type 0
RigidHeadsDiffer =
    (E : Env) → BodiesClosed E → (t s : Term) → IsHead E t → IsHead E s → outline t ≢ outline s → Conv E t s → ⊥

-- two convertible heads have one outline and convertible components
abbrev pub ConvertibleHeadsAgree : Type 0
ConvertibleHeadsAgree =
    (E : Env) → BodiesClosed E → (t s : Term) → IsHead E t → IsHead E s → Conv E t s →
    (outline t ≡ outline s) × Convs E (parts t) (parts s)

-- within n contractions: the head to which k of them lead, at most n, is found after k; none is found exactly
-- where n + 1 can be made
pub record HeadIsExact : Type 0 where
  pub found : (E : Env) (n k : ℕ) (t h : Term) → (head E n t ≡ Head.done h k) ↔ (Toward E k t h × IsHead E h × (k ≤ n))
  pub spent : (E : Env) (n : ℕ) (t : Term) → (head E n t ≡ Head.spent) ↔ ((s : Term) × Toward E (suc n) t s)
  -- a term contracts to its head
  pub reduces : (E : Env) (n k : ℕ) (t h : Term) → head E n t ≡ Head.done h k → Reduces E t h

-- what a term contracts to, by any contractions, it contracts to by contractions toward the head first
abbrev pub ContractionIsStandard : Type 0
ContractionIsStandard = (E : Env) → BodiesClosed E → (t s : Term) → Reduces E t s ↔ Standard E t s

-- the contractions toward the head end wherever a term is convertible to a head at all: at a head of its outline
abbrev pub HeadIsReached : Type 0
HeadIsReached = (E : Env) → BodiesClosed E → (t s : Term) → Conv E t s → IsHead E s → HasHeadLike E t s

-- the count alone limits a comparison, and an answer stands under each greater count
pub record CountAloneLimits : Type 0 where
  pub exact : (E : Env) (n : ℕ) (is : List Item) (a : Answer) → (within_count E n is ≡ a) ↔ Compared E n is a
  pub stands : (E : Env) (n m : ℕ) (t s : Term) → n ≤ m → compare E n t s ≢ Answer.spent →
      compare E m t s ≡ compare E n t s

-- the answer within n contractions is what the recursion comes to
abbrev pub ComparesByRecursion : Type 0
ComparesByRecursion = (E : Env) (n : ℕ) (t s : Term) (a : Answer) →
    (compare E n t s ≡ a) ↔ ((r : Comparison) × Compares E n t s r × (answered r ≡ a))

abbrev pub EqualIsConvertible : Type 0
EqualIsConvertible = (E : Env) (n : ℕ) (t s : Term) → compare E n t s ≡ Answer.equal → Conv E t s

abbrev pub DifferentIsApart : Type 0
DifferentIsApart = (E : Env) → BodiesClosed E → (n : ℕ) (t s : Term) (path : List ℕ) →
    compare E n t s ≡ Answer.different path → Conv E t s → ⊥

-- the laws speak of something
abbrev pub DefinitionsTell : Type 0
DefinitionsTell = (E : Env) → BodiesClosed E → ConversionTells E × OtherContractions E × TwoWays E × ComparisonTells E
