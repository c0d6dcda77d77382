-- A refusal of the code has the kind of its cause.
use Rattle.std.proofs.Common.{◌≡◌, ℕ, Some, None, ap}
use Rattle.qtt_rules.specs.declared.detail.Detail.TheVariants as detail
use Rattle.qtt_rules.specs.Refusal.{Cause}
use Rattle.qtt_rules.specs.View.{kind_of_cause, CausesHaveTheirKinds}

none-is-no-cause : (n : ℕ) (c : Cause) → None ≡ Some c → n ≡ kind_of_cause c
none-is-no-cause n c e = absurd (cc e)

some-is-its-cause : (b c : Cause) → Some b ≡ Some c → kind_of_cause b ≡ kind_of_cause c
some-is-its-cause b c e = ap kind_of_cause (let k : b ≡ c = cc e in k)

pub causes-have-their-kinds : CausesHaveTheirKinds
causes-have-their-kinds detail.NotUtf8 c e = none-is-no-cause _ c e
causes-have-their-kinds (detail.BadCharacter x₁) c e = none-is-no-cause _ c e
causes-have-their-kinds detail.OpenText c e = none-is-no-cause _ c e
causes-have-their-kinds detail.OpenComment c e = none-is-no-cause _ c e
causes-have-their-kinds detail.NumberTooWide c e = none-is-no-cause _ c e
causes-have-their-kinds detail.NameTooLong c e = none-is-no-cause _ c e
causes-have-their-kinds detail.BadIndent c e = none-is-no-cause _ c e
causes-have-their-kinds (detail.Unexpected x₁) c e = none-is-no-cause _ c e
causes-have-their-kinds detail.TooDeep c e = none-is-no-cause _ c e
causes-have-their-kinds (detail.Unbound x₁) c e = none-is-no-cause _ c e
causes-have-their-kinds (detail.Ambiguous x₁) c e = none-is-no-cause _ c e
causes-have-their-kinds (detail.Duplicate x₁) c e = none-is-no-cause _ c e
causes-have-their-kinds (detail.NotPositive x₁ x₂) c e = some-is-its-cause _ c e
causes-have-their-kinds detail.NeedsType c e = some-is-its-cause _ c e
causes-have-their-kinds (detail.NotAFunction x₁ x₂) c e = some-is-its-cause _ c e
causes-have-their-kinds (detail.TypeMismatch x₁ x₂ x₃) c e = some-is-its-cause _ c e
causes-have-their-kinds (detail.WrongQuantity x₁ x₂) c e = some-is-its-cause _ c e
causes-have-their-kinds (detail.WrongUsage x₁ x₂ x₃) c e = some-is-its-cause _ c e
causes-have-their-kinds (detail.NotAType x₁ x₂) c e = some-is-its-cause _ c e
causes-have-their-kinds (detail.WrongLevel x₁ x₂) c e = some-is-its-cause _ c e
causes-have-their-kinds (detail.WrongArity x₁ x₂) c e = some-is-its-cause _ c e
causes-have-their-kinds (detail.NotAFamily x₁ x₂) c e = some-is-its-cause _ c e
causes-have-their-kinds (detail.ErasedUse x₁ x₂) c e = some-is-its-cause _ c e
causes-have-their-kinds (detail.BudgetSpent x₁ x₂) c e = none-is-no-cause _ c e
causes-have-their-kinds (detail.PatternStuck x₁ x₂ x₃) c e = some-is-its-cause _ c e
causes-have-their-kinds (detail.DotMismatch x₁ x₂ x₃) c e = some-is-its-cause _ c e
causes-have-their-kinds (detail.ErasedMatch x₁) c e = some-is-its-cause _ c e
causes-have-their-kinds (detail.Missing x₁ x₂) c e = some-is-its-cause _ c e
causes-have-their-kinds (detail.NoClauses x₁) c e = some-is-its-cause _ c e
causes-have-their-kinds detail.WrongMain c e = some-is-its-cause _ c e
causes-have-their-kinds (detail.Limit x₁ x₂) c e = some-is-its-cause _ c e
causes-have-their-kinds (detail.WrongModuleName x₁ x₂) c e = none-is-no-cause _ c e
causes-have-their-kinds (detail.Cycle x₁) c e = none-is-no-cause _ c e
causes-have-their-kinds (detail.Unsolved x₁) c e = none-is-no-cause _ c e
causes-have-their-kinds (detail.NotAnAction x₁ x₂) c e = some-is-its-cause _ c e
causes-have-their-kinds (detail.Unreachable x₁) c e = some-is-its-cause _ c e
causes-have-their-kinds (detail.HasHoles x₁) c e = none-is-no-cause _ c e
causes-have-their-kinds (detail.CoreRefused x₁) c e = some-is-its-cause _ c e
