-- The cause that a refusal of the code stands for. What reading, a spent budget and a build refuse is no false
-- premise of a table.
use Rattle.std.specs.Prelude.{◌≡◌, ℕ, map, Option, Some, None}
use Rattle.qtt_syntax.specs.View.{shape_of}
use Rattle.qtt_term.specs.View.{term}
use Rattle.qtt_rules.specs.declared.detail.Detail.{Detail}
use Rattle.qtt_rules.specs.declared.detail.Detail.TheVariants as detail
use Rattle.qtt_rules.specs.Kinds.{kind_of}
use Rattle.qtt_rules.specs.Refusal.{Cause}

abbrev pub cause : Detail → Option Cause
cause detail.NotUtf8 = None
cause (detail.BadCharacter c) = None
cause detail.OpenText = None
cause detail.OpenComment = None
cause detail.NumberTooWide = None
cause detail.NameTooLong = None
cause detail.BadIndent = None
cause (detail.Unexpected w) = None
cause detail.TooDeep = None
cause (detail.Unbound n) = None
cause (detail.Ambiguous n) = None
cause (detail.Duplicate n) = None
cause (detail.NotPositive c f) = Some (Cause.not_positive c f)
cause detail.NeedsType = Some Cause.needs_type
cause (detail.NotAFunction d A) = Some (Cause.not_a_function d (term A))
cause (detail.TypeMismatch d e f) = Some (Cause.mismatch d (term e) (term f))
cause (detail.WrongQuantity e f) = Some (Cause.wrong_quantity e f)
cause (detail.WrongUsage n q u) = Some (Cause.wrong_usage n q u)
cause (detail.NotAType d A) = Some (Cause.not_a_type d (term A))
cause (detail.WrongLevel l f) = Some (Cause.wrong_level l f)
cause (detail.WrongArity e f) = Some (Cause.wrong_arity e f)
cause (detail.NotAFamily d A) = Some (Cause.not_a_family d (term A))
cause (detail.ErasedUse d t) = Some (Cause.erased_use d (term t))
cause (detail.BudgetSpent b q) = None
cause (detail.PatternStuck d l r) = Some (Cause.pattern_stuck d (term l) (term r))
cause (detail.DotMismatch d e f) = Some (Cause.dot_mismatch d (term e) (term f))
cause (detail.ErasedMatch n) = Some (Cause.erased_match n)
cause (detail.Missing n ps) = Some (Cause.missing n (map shape_of ps.items))
cause (detail.NoClauses n) = Some (Cause.no_clauses n)
cause detail.WrongMain = Some Cause.wrong_main
cause (detail.Limit q n) = Some (Cause.limit q n)
cause (detail.WrongModuleName e f) = None
cause (detail.Cycle ms) = None
cause (detail.Unsolved n) = None
cause (detail.NotAnAction d A) = Some (Cause.not_an_action d (term A))
cause (detail.Unreachable n) = Some (Cause.unreachable n)
cause (detail.HasHoles ns) = None
cause (detail.CoreRefused n) = Some (Cause.core_refused n)

-- the number of a cause's kind; what no text has once it is read has none
abbrev pub kind_of_cause : Cause → ℕ
kind_of_cause (Cause.not_positive c f) = 13
kind_of_cause Cause.needs_type = 14
kind_of_cause (Cause.not_a_function d A) = 15
kind_of_cause (Cause.mismatch d e f) = 16
kind_of_cause (Cause.wrong_quantity e f) = 17
kind_of_cause (Cause.wrong_usage n q u) = 18
kind_of_cause (Cause.not_a_type d A) = 19
kind_of_cause (Cause.wrong_level l f) = 20
kind_of_cause (Cause.wrong_arity e f) = 21
kind_of_cause (Cause.not_a_family d A) = 22
kind_of_cause (Cause.erased_use d t) = 23
kind_of_cause (Cause.pattern_stuck d l r) = 25
kind_of_cause (Cause.dot_mismatch d e f) = 26
kind_of_cause (Cause.erased_match n) = 27
kind_of_cause (Cause.missing n ps) = 28
kind_of_cause (Cause.no_clauses n) = 29
kind_of_cause Cause.wrong_main = 30
kind_of_cause (Cause.limit q n) = 31
kind_of_cause (Cause.not_an_action d A) = 35
kind_of_cause (Cause.unreachable n) = 36
kind_of_cause (Cause.core_refused n) = 38
kind_of_cause Cause.unread = 0

-- a refusal of the code has the kind of its cause
abbrev pub CausesHaveTheirKinds : Type 0
CausesHaveTheirKinds = (d : Detail) (c : Cause) → cause d ≡ Some c → kind_of d ≡ kind_of_cause c
