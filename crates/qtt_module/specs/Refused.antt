-- Why a module is refused, and judgements that end so.
use Rattle.std.specs.Prelude.{ℕ, Bool, true, false, cond, List, Result, Ok, Err}
use Rattle.qtt_base.specs.declared.place.Span.{Span}
use Rattle.qtt_term.specs.declared.rule.Rule.{Rule}
use Rattle.qtt_term.specs.Ask.{Ending}
use Rattle.qtt_term.specs.Entries.{Entries, prim_entries}
use Rattle.qtt_rules.specs.declared.refusal.Refusal as code_refusal
use Rattle.qtt_rules.specs.Refusal.{Cause, Place}
use Rattle.qtt_rules.specs.Refusal as rules
use Rattle.qtt_diag.specs.Kept.{Detail, Refusal, refusal as kept_of}
use Rattle.qtt_diag.specs.Messages.{told}

-- the premise that is false, by its rule and its number there, and what the refusal keeps
pub record Refused : Type 0 where
  pub rule : Rule
  pub number : ℕ
  pub kept : Refusal

abbrev pub refused_of : code_refusal.Refusal → Refused
refused_of r = record { rule = r.rule; number = r.premise; kept = kept_of r }

-- a value, or why there is none
abbrev pub Answer : Type 0 → Type 0
Answer A = Result A Refused

infixl 10 ◌>>=◌
-- the one, and then the other with its value; the first that is refused is the refusal of both
unfoldable pub ◌>>=◌ : {A B : Type 0} → Answer A → (A → Answer B) → Answer B
Ok a >>= k = k a
Err r >>= k = Err r

-- ---- of a whole text, or of its names: no term is kept, and the premises are numbered as their kinds
abbrev pub plain : Rule → List ℕ → Span → Detail → Refused
plain r M s d = record {
  rule = r;
  number = (told prim_entries d).kind;
  kept = record { «module» = M; span = s; detail = d; names = prim_entries };
}

-- ---- of an item
-- the two sides of a premise are terms, or one of them is
abbrev pub has_terms : Cause → Bool
has_terms (Cause.not_a_function n t) = true
has_terms (Cause.not_a_type n t) = true
has_terms (Cause.not_a_family n t) = true
has_terms (Cause.not_an_action n t) = true
has_terms (Cause.mismatch n t u) = true
has_terms (Cause.dot_mismatch n t u) = true
has_terms (Cause.erased_use n t) = true
has_terms (Cause.pattern_stuck n t u) = true
has_terms Cause.needs_type = false
has_terms (Cause.wrong_quantity q p) = false
has_terms (Cause.wrong_usage x q p) = false
has_terms (Cause.wrong_level l k) = false
has_terms (Cause.wrong_arity n k) = false
has_terms (Cause.erased_match x) = false
has_terms (Cause.missing d ps) = false
has_terms (Cause.unreachable d) = false
has_terms (Cause.no_clauses d) = false
has_terms (Cause.core_refused x) = false
has_terms (Cause.limit q n) = false
has_terms (Cause.not_positive c k) = false
has_terms Cause.wrong_main = false
has_terms Cause.unread = false

-- terms are kept of such a premise, and of a question that is spent
abbrev pub keeps_terms : Detail → Bool
keeps_terms (Detail.premise c) = has_terms c
keeps_terms (Detail.budget_spent n q) = true
keeps_terms Detail.not_utf8 = false
keeps_terms (Detail.bad_character c) = false
keeps_terms Detail.open_text = false
keeps_terms Detail.open_comment = false
keeps_terms Detail.number_too_wide = false
keeps_terms Detail.name_too_long = false
keeps_terms Detail.bad_indent = false
keeps_terms (Detail.unexpected w) = false
keeps_terms Detail.too_deep = false
keeps_terms (Detail.unbound n) = false
keeps_terms (Detail.ambiguous n) = false
keeps_terms (Detail.duplicate n) = false
keeps_terms (Detail.wrong_module_name n m) = false
keeps_terms (Detail.cycle ms) = false
keeps_terms (Detail.unsolved n) = false
keeps_terms (Detail.has_holes ns) = false

-- the names with which it is printed: those that stand, or Prim's where no term is kept
abbrev pub names_for : Detail → Entries → Entries
names_for d G = cond (keeps_terms d) G prim_entries

-- at a place of the module M, where these families and definitions stand
abbrev pub refused_at : List ℕ → Entries → Place → Detail → Refused
refused_at M G p d = record {
  rule = p.rule;
  number = p.number;
  kept = record { «module» = M; span = p.span; detail = d; names = names_for d G };
}

-- a judgement within n contractions for each question
abbrev pub judged : {A : Type 0} → List ℕ → ℕ → Entries → Ending rules.Refusal Place A → Answer A
judged M n G (Ending.ok a) = Ok a
judged M n G (Ending.fails r) = Err (refused_at M G r.place (Detail.premise r.cause))
judged M n G (Ending.spent p q) = Err (refused_at M G p (Detail.budget_spent n q))
