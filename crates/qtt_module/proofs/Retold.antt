-- What the plan of a definition answers, as elaboration tells it.
use Rattle.std.proofs.Common.{ℕ, Option, Some, None, Result, Ok, Err}
use Rattle.qtt_term.specs.declared.convert.Question.TheVariants as asked
use Rattle.qtt_term.specs.Signature.{Env}
use Rattle.qtt_rules.specs.declared.detail.Detail.{Detail}
use Rattle.qtt_rules.specs.declared.detail.Detail.TheVariants as detail
use Rattle.qtt_rules.specs.declared.errors.ElabError.{ElabError}
use Rattle.qtt_rules.specs.declared.errors.ElabError.TheVariants as error
use Rattle.qtt_rules.specs.Refusal.{Cause, Place, at}
use Rattle.qtt_rules.specs.Asks.{Asks}
use Rattle.qtt_rules.specs.View.{cause}
use Rattle.qtt_bidi.specs.Answers as here
use Rattle.qtt_split.specs.Answers as plan

module _ (E : Env) (n : ℕ) {A : Type 0} (m : Asks A) where
  of-cause : (p : Place) (o : Option Cause) → plan.Tells E n m p (plan.of_cause o) →
      here.Tells E n m p (here.of_cause o)
  of-cause p None h = h
  of-cause p (Some c) h = record { is = h.is }

  of-detail : (p : Place) (d : Detail) → plan.Tells E n m p (plan.kept d) → here.Tells E n m p (here.kept d)
  of-detail p detail.NotUtf8 h = of-cause p (cause detail.NotUtf8) h
  of-detail p (detail.BadCharacter a) h = of-cause p (cause (detail.BadCharacter a)) h
  of-detail p detail.OpenText h = of-cause p (cause detail.OpenText) h
  of-detail p detail.OpenComment h = of-cause p (cause detail.OpenComment) h
  of-detail p detail.NumberTooWide h = of-cause p (cause detail.NumberTooWide) h
  of-detail p detail.NameTooLong h = of-cause p (cause detail.NameTooLong) h
  of-detail p detail.BadIndent h = of-cause p (cause detail.BadIndent) h
  of-detail p (detail.Unexpected a) h = of-cause p (cause (detail.Unexpected a)) h
  of-detail p detail.TooDeep h = of-cause p (cause detail.TooDeep) h
  of-detail p (detail.Unbound a) h = of-cause p (cause (detail.Unbound a)) h
  of-detail p (detail.Ambiguous a) h = of-cause p (cause (detail.Ambiguous a)) h
  of-detail p (detail.Duplicate a) h = of-cause p (cause (detail.Duplicate a)) h
  of-detail p (detail.NotPositive a b) h = of-cause p (cause (detail.NotPositive a b)) h
  of-detail p detail.NeedsType h = of-cause p (cause detail.NeedsType) h
  of-detail p (detail.NotAFunction a b) h = of-cause p (cause (detail.NotAFunction a b)) h
  of-detail p (detail.TypeMismatch a b c) h = of-cause p (cause (detail.TypeMismatch a b c)) h
  of-detail p (detail.WrongQuantity a b) h = of-cause p (cause (detail.WrongQuantity a b)) h
  of-detail p (detail.WrongUsage a b c) h = of-cause p (cause (detail.WrongUsage a b c)) h
  of-detail p (detail.NotAType a b) h = of-cause p (cause (detail.NotAType a b)) h
  of-detail p (detail.WrongLevel a b) h = of-cause p (cause (detail.WrongLevel a b)) h
  of-detail p (detail.WrongArity a b) h = of-cause p (cause (detail.WrongArity a b)) h
  of-detail p (detail.NotAFamily a b) h = of-cause p (cause (detail.NotAFamily a b)) h
  of-detail p (detail.ErasedUse a b) h = of-cause p (cause (detail.ErasedUse a b)) h
  of-detail p (detail.BudgetSpent b (asked.Head j t)) h = record { budget = h.budget; is = h.is }
  of-detail p (detail.BudgetSpent b (asked.Compare j t u)) h = record { budget = h.budget; is = h.is }
  of-detail p (detail.PatternStuck a b c) h = of-cause p (cause (detail.PatternStuck a b c)) h
  of-detail p (detail.DotMismatch a b c) h = of-cause p (cause (detail.DotMismatch a b c)) h
  of-detail p (detail.ErasedMatch a) h = of-cause p (cause (detail.ErasedMatch a)) h
  of-detail p (detail.Missing a b) h = of-cause p (cause (detail.Missing a b)) h
  of-detail p (detail.NoClauses a) h = of-cause p (cause (detail.NoClauses a)) h
  of-detail p detail.WrongMain h = of-cause p (cause detail.WrongMain) h
  of-detail p (detail.Limit a b) h = of-cause p (cause (detail.Limit a b)) h
  of-detail p (detail.WrongModuleName a b) h = of-cause p (cause (detail.WrongModuleName a b)) h
  of-detail p (detail.Cycle a) h = of-cause p (cause (detail.Cycle a)) h
  of-detail p (detail.Unsolved a) h = of-cause p (cause (detail.Unsolved a)) h
  of-detail p (detail.NotAnAction a b) h = of-cause p (cause (detail.NotAnAction a b)) h
  of-detail p (detail.Unreachable a) h = of-cause p (cause (detail.Unreachable a)) h
  of-detail p (detail.HasHoles a) h = of-cause p (cause (detail.HasHoles a)) h
  of-detail p (detail.CoreRefused a) h = of-cause p (cause (detail.CoreRefused a)) h

  pub refused : (e : ElabError) → plan.Refuses E n m e → here.Refuses E n m e
  refused (error.Refused d s r k) h = of-detail (at s r k) d h
  refused error.Memory h = tt

  pub given : {X : Type 0} (view : X → A) (r : Result X ElabError) → plan.Gives E n m view r → here.Gives E n m view r
  given view (Ok x) h = record { is = h.is }
  given view (Err e) h = refused e h
