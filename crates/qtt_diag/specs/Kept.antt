-- What a refusal keeps, without where it lies in memory: of reading, of a premise, of a budget, of a build.
use Rattle.std.specs.Prelude.{ℕ, List, Option, Some, None}
use Rattle.qtt_base.specs.declared.place.Span.{Span}
use Rattle.qtt_term.specs.Ask.{Question}
use Rattle.qtt_term.specs.Entries.{Entries, entries}
use Rattle.qtt_term.specs.View.{term}
use Rattle.qtt_term.specs.declared.convert.Question as code_question
use Rattle.qtt_term.specs.declared.convert.Question.TheVariants as asked
use Rattle.qtt_rules.specs.declared.detail.Detail as code
use Rattle.qtt_rules.specs.declared.detail.Detail.TheVariants as kept
use Rattle.qtt_rules.specs.declared.refusal.Refusal as code_refusal
use Rattle.qtt_rules.specs.Refusal.{Cause}
use Rattle.qtt_rules.specs.View.{cause}

pub data Detail : Type 0 where
  not_utf8 open_text open_comment number_too_wide name_too_long bad_indent too_deep : Detail
  -- the character's number
  bad_character : ℕ → Detail
  -- the found word
  unexpected : List ℕ → Detail
  -- the name as the text writes it
  unbound ambiguous duplicate : List ℕ → Detail
  -- the two sides of a premise that is false, or a limit
  premise : Cause → Detail
  -- the contractions of one question, and the first question that took more
  budget_spent : ℕ → Question → Detail
  wrong_module_name : (expected found : List ℕ) → Detail
  -- along the imports, from the least name
  cycle : List (List ℕ) → Detail
  -- the binder's name
  unsolved : List ℕ → Detail
  has_holes : List (List ℕ) → Detail

-- the module that is refused, the place, what is kept, and the names with which its terms are printed
pub record Refusal : Type 0 where
  pub «module» : List ℕ
  pub span : Span
  pub detail : Detail
  pub names : Entries

-- ---- what the code's refusals stand for
abbrev pub question : code_question.Question → Question
question (asked.Head d t) = Question.head_of d (term t)
question (asked.Compare d t u) = Question.compared d (term t) (term u)

abbrev pub of_cause : Option Cause → Detail
of_cause (Some c) = Detail.premise c
of_cause None = Detail.premise Cause.unread

abbrev pub detail : code.Detail → Detail
detail kept.NotUtf8 = Detail.not_utf8
detail (kept.BadCharacter c) = Detail.bad_character c
detail kept.OpenText = Detail.open_text
detail kept.OpenComment = Detail.open_comment
detail kept.NumberTooWide = Detail.number_too_wide
detail kept.NameTooLong = Detail.name_too_long
detail kept.BadIndent = Detail.bad_indent
detail (kept.Unexpected w) = Detail.unexpected w.items
detail kept.TooDeep = Detail.too_deep
detail (kept.Unbound n) = Detail.unbound n
detail (kept.Ambiguous n) = Detail.ambiguous n
detail (kept.Duplicate n) = Detail.duplicate n
detail (kept.BudgetSpent n q) = Detail.budget_spent n (question q)
detail (kept.WrongModuleName n m) = Detail.wrong_module_name n m
detail (kept.Cycle ns) = Detail.cycle ns.items
detail (kept.Unsolved n) = Detail.unsolved n
detail (kept.HasHoles ns) = Detail.has_holes ns.items
detail (kept.NotPositive c f) = of_cause (cause (kept.NotPositive c f))
detail kept.NeedsType = of_cause (cause kept.NeedsType)
detail (kept.NotAFunction d A) = of_cause (cause (kept.NotAFunction d A))
detail (kept.TypeMismatch d e f) = of_cause (cause (kept.TypeMismatch d e f))
detail (kept.WrongQuantity e f) = of_cause (cause (kept.WrongQuantity e f))
detail (kept.WrongUsage n q u) = of_cause (cause (kept.WrongUsage n q u))
detail (kept.NotAType d A) = of_cause (cause (kept.NotAType d A))
detail (kept.WrongLevel l f) = of_cause (cause (kept.WrongLevel l f))
detail (kept.WrongArity e f) = of_cause (cause (kept.WrongArity e f))
detail (kept.NotAFamily d A) = of_cause (cause (kept.NotAFamily d A))
detail (kept.ErasedUse d t) = of_cause (cause (kept.ErasedUse d t))
detail (kept.PatternStuck d l r) = of_cause (cause (kept.PatternStuck d l r))
detail (kept.DotMismatch d e f) = of_cause (cause (kept.DotMismatch d e f))
detail (kept.ErasedMatch n) = of_cause (cause (kept.ErasedMatch n))
detail (kept.Missing n ps) = of_cause (cause (kept.Missing n ps))
detail (kept.NoClauses n) = of_cause (cause (kept.NoClauses n))
detail kept.WrongMain = of_cause (cause kept.WrongMain)
detail (kept.Limit q n) = of_cause (cause (kept.Limit q n))
detail (kept.NotAnAction d A) = of_cause (cause (kept.NotAnAction d A))
detail (kept.Unreachable n) = of_cause (cause (kept.Unreachable n))
detail (kept.CoreRefused n) = of_cause (cause (kept.CoreRefused n))

abbrev pub refusal : code_refusal.Refusal → Refusal
refusal r = record {
  «module» = r.module;
  span = r.span;
  detail = detail r.detail;
  names = entries r.names;
}
