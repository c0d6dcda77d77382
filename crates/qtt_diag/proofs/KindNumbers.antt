-- The numbers of the table, kind by kind.
use Rattle.std.proofs.Common.{refl}
use Rattle.qtt_rules.specs.declared.detail.Detail.TheVariants as detail
use Rattle.qtt_diag.specs.Laws.{KindsAgree}

pub kinds_agree : KindsAgree
kinds_agree N detail.NotUtf8 = refl
kinds_agree N (detail.BadCharacter a) = refl
kinds_agree N detail.OpenText = refl
kinds_agree N detail.OpenComment = refl
kinds_agree N detail.NumberTooWide = refl
kinds_agree N detail.NameTooLong = refl
kinds_agree N detail.BadIndent = refl
kinds_agree N (detail.Unexpected a) = refl
kinds_agree N detail.TooDeep = refl
kinds_agree N (detail.Unbound a) = refl
kinds_agree N (detail.Ambiguous a) = refl
kinds_agree N (detail.Duplicate a) = refl
kinds_agree N (detail.NotPositive a b) = refl
kinds_agree N detail.NeedsType = refl
kinds_agree N (detail.NotAFunction a b) = refl
kinds_agree N (detail.TypeMismatch a b c) = refl
kinds_agree N (detail.WrongQuantity a b) = refl
kinds_agree N (detail.WrongUsage a b c) = refl
kinds_agree N (detail.NotAType a b) = refl
kinds_agree N (detail.WrongLevel a b) = refl
kinds_agree N (detail.WrongArity a b) = refl
kinds_agree N (detail.NotAFamily a b) = refl
kinds_agree N (detail.ErasedUse a b) = refl
kinds_agree N (detail.BudgetSpent a b) = refl
kinds_agree N (detail.PatternStuck a b c) = refl
kinds_agree N (detail.DotMismatch a b c) = refl
kinds_agree N (detail.ErasedMatch a) = refl
kinds_agree N (detail.Missing a b) = refl
kinds_agree N (detail.NoClauses a) = refl
kinds_agree N detail.WrongMain = refl
kinds_agree N (detail.Limit a b) = refl
kinds_agree N (detail.WrongModuleName a b) = refl
kinds_agree N (detail.Cycle a) = refl
kinds_agree N (detail.Unsolved a) = refl
kinds_agree N (detail.NotAnAction a b) = refl
kinds_agree N (detail.Unreachable a) = refl
kinds_agree N (detail.HasHoles a) = refl
kinds_agree N (detail.CoreRefused a) = refl
