-- The message of a refusal: MODULE:LINE:COL: KIND NAME DETAIL.
use Rattle.std.specs.Prelude.{ℕ, ◌-◌, true, List, [], ◌∷◌, ◌++◌, length, replicate, Option, option_map, codes, decimal}
use Rattle.std.specs.Fmt.{digits}
use Rattle.qtt_base.specs.Limits.{words_of}
use Rattle.qtt_base.specs.declared.place.Span.{Span}
use Rattle.qtt_term.specs.Term.{Term}
use Rattle.qtt_term.specs.Ask.{Question}
use Rattle.qtt_term.specs.Entries.{Entries}
use Rattle.qtt_rules.specs.Refusal.{Cause}
use Rattle.qtt_core_print.specs.Names.{unqualified, told_or_blank}
use Rattle.qtt_core_print.specs.Printing.{behind_blanks, mult_word, text}
use Rattle.qtt_diag.specs.Kept.{Detail, Refusal}
use Rattle.qtt_diag.specs.Patterns.{clause_text}

-- ---- parts of a detail
-- upper-case hexadecimal digits, at least four of them
abbrev pub hexadecimal : ℕ → List ℕ
hexadecimal n = replicate (4 - length (digits 16 true n)) 48 ++ digits 16 true n

-- WORD A WORD B
abbrev pub pair : List ℕ → List ℕ → List ℕ → List ℕ → List (List ℕ)
pair first a second b = first ∷ a ∷ second ∷ b ∷ []

abbrev pub expected_found : List ℕ → List ℕ → List (List ℕ)
expected_found a b = pair (codes "expected") a (codes "found") b

abbrev pub sides : Entries → ℕ → Term → Term → List (List ℕ)
sides N d e f = expected_found (text N d e) (text N d f)

-- without its module, and `_` where there is none
abbrev pub name_or_blank : Option (List ℕ) → List ℕ
name_or_blank n = told_or_blank (option_map unqualified n)

abbrev pub question_text : Entries → Question → List (List ℕ)
question_text N (Question.head_of d t) = codes "head" ∷ text N d t ∷ []
question_text N (Question.compared d t u) = codes "compare" ∷ text N d t ∷ text N d u ∷ []

-- ---- the table of kinds: number, name, and the parts of the detail
pub record Told : Type 0 where
  pub kind : ℕ
  pub name : List ℕ
  pub parts : List (List ℕ)

abbrev pub row : ℕ → List ℕ → List (List ℕ) → Told
row kind name parts = record { kind = kind; name = name; parts = parts }

-- what no text has once it is read has no kind
abbrev pub told_cause : Entries → Cause → Told
told_cause N (Cause.not_positive c i) = row 13 (codes "NotPositive") (unqualified c ∷ decimal i ∷ [])
told_cause N Cause.needs_type = row 14 (codes "NeedsType") []
told_cause N (Cause.not_a_function d A) = row 15 (codes "NotAFunction") (text N d A ∷ [])
told_cause N (Cause.mismatch d e f) = row 16 (codes "TypeMismatch") (sides N d e f)
told_cause N (Cause.wrong_quantity e f) = row 17 (codes "WrongQuantity") (expected_found (mult_word e) (mult_word f))
told_cause N (Cause.wrong_usage n q u) =
    row 18 (codes "WrongUsage") (name_or_blank n ∷ pair (codes "declared") (mult_word q) (codes "used") (mult_word u))
told_cause N (Cause.not_a_type d A) = row 19 (codes "NotAType") (text N d A ∷ [])
told_cause N (Cause.wrong_level l f) =
    row 20 (codes "WrongLevel") (pair (codes "declared") (decimal l) (codes "found") (decimal f))
told_cause N (Cause.wrong_arity e f) = row 21 (codes "WrongArity") (expected_found (decimal e) (decimal f))
told_cause N (Cause.not_a_family d A) = row 22 (codes "NotAFamily") (text N d A ∷ [])
told_cause N (Cause.erased_use d t) = row 23 (codes "ErasedUse") (text N d t ∷ [])
told_cause N (Cause.pattern_stuck d l r) = row 25 (codes "PatternStuck") (text N d l ∷ codes "=" ∷ text N d r ∷ [])
told_cause N (Cause.dot_mismatch d e f) = row 26 (codes "DotMismatch") (sides N d e f)
told_cause N (Cause.erased_match n) = row 27 (codes "ErasedMatch") (name_or_blank n ∷ [])
told_cause N (Cause.missing d ps) = row 28 (codes "Missing") (clause_text d ps ∷ [])
told_cause N (Cause.no_clauses d) = row 29 (codes "NoClauses") (unqualified d ∷ [])
told_cause N Cause.wrong_main = row 30 (codes "WrongMain") []
told_cause N (Cause.limit q n) = row 31 (codes "Limit") (words_of q ∷ decimal n ∷ [])
told_cause N (Cause.not_an_action d A) = row 35 (codes "NotAnAction") (text N d A ∷ [])
told_cause N (Cause.unreachable d) = row 36 (codes "Unreachable") (unqualified d ∷ [])
told_cause N (Cause.core_refused x) = row 38 (codes "CoreRefused") (unqualified x ∷ [])
told_cause N Cause.unread = row 0 [] []

abbrev pub told : Entries → Detail → Told
told N Detail.not_utf8 = row 1 (codes "NotUtf8") []
told N (Detail.bad_character c) = row 2 (codes "BadCharacter") ((codes "U+" ++ hexadecimal c) ∷ [])
told N Detail.open_text = row 3 (codes "OpenText") []
told N Detail.open_comment = row 4 (codes "OpenComment") []
told N Detail.number_too_wide = row 5 (codes "NumberTooWide") []
told N Detail.name_too_long = row 6 (codes "NameTooLong") []
told N Detail.bad_indent = row 7 (codes "BadIndent") []
told N (Detail.unexpected word) = row 8 (codes "Unexpected") (word ∷ [])
told N Detail.too_deep = row 9 (codes "TooDeep") []
told N (Detail.unbound n) = row 10 (codes "Unbound") (n ∷ [])
told N (Detail.ambiguous n) = row 11 (codes "Ambiguous") (n ∷ [])
told N (Detail.duplicate n) = row 12 (codes "Duplicate") (n ∷ [])
told N (Detail.premise c) = told_cause N c
told N (Detail.budget_spent n q) = row 24 (codes "BudgetSpent") (decimal n ∷ question_text N q)
told N (Detail.wrong_module_name n m) = row 32 (codes "WrongModuleName") (expected_found n m)
told N (Detail.cycle ns) = row 33 (codes "Cycle") ns
told N (Detail.unsolved x) = row 34 (codes "Unsolved") (unqualified x ∷ [])
told N (Detail.has_holes ns) = row 37 (codes "HasHoles") ns

-- ---- the line, without the byte that ends it
-- MODULE:LINE:COL:
abbrev pub place : List ℕ → Span → List ℕ
place m s = m ++ codes ":" ++ decimal s.line ++ codes ":" ++ decimal s.col ++ codes ":"

abbrev pub line : List ℕ → Span → Told → List ℕ
line m s t = place m s ++ behind_blanks (decimal t.kind ∷ t.name ∷ t.parts)

abbrev pub message : Refusal → List ℕ
message r = line r.module r.span (told r.names r.detail)
