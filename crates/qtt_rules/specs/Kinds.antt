-- The number of each kind of refusal.
use Rattle.std.specs.Prelude.{ℕ}
use Rattle.qtt_rules.specs.declared.detail.Detail.{Detail}
use Rattle.qtt_rules.specs.declared.detail.Detail.TheVariants as detail

abbrev pub kind_of : Detail → ℕ
kind_of detail.NotUtf8 = 1
kind_of (detail.BadCharacter a) = 2
kind_of detail.OpenText = 3
kind_of detail.OpenComment = 4
kind_of detail.NumberTooWide = 5
kind_of detail.NameTooLong = 6
kind_of detail.BadIndent = 7
kind_of (detail.Unexpected a) = 8
kind_of detail.TooDeep = 9
kind_of (detail.Unbound a) = 10
kind_of (detail.Ambiguous a) = 11
kind_of (detail.Duplicate a) = 12
kind_of (detail.NotPositive a b) = 13
kind_of detail.NeedsType = 14
kind_of (detail.NotAFunction a b) = 15
kind_of (detail.TypeMismatch a b c) = 16
kind_of (detail.WrongQuantity a b) = 17
kind_of (detail.WrongUsage a b c) = 18
kind_of (detail.NotAType a b) = 19
kind_of (detail.WrongLevel a b) = 20
kind_of (detail.WrongArity a b) = 21
kind_of (detail.NotAFamily a b) = 22
kind_of (detail.ErasedUse a b) = 23
kind_of (detail.BudgetSpent a b) = 24
kind_of (detail.PatternStuck a b c) = 25
kind_of (detail.DotMismatch a b c) = 26
kind_of (detail.ErasedMatch a) = 27
kind_of (detail.Missing a b) = 28
kind_of (detail.NoClauses a) = 29
kind_of detail.WrongMain = 30
kind_of (detail.Limit a b) = 31
kind_of (detail.WrongModuleName a b) = 32
kind_of (detail.Cycle a) = 33
kind_of (detail.Unsolved a) = 34
kind_of (detail.NotAnAction a b) = 35
kind_of (detail.Unreachable a) = 36
kind_of (detail.HasHoles a) = 37
kind_of (detail.CoreRefused a) = 38
