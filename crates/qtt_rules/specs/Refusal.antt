-- Why a text is refused: what the refusal keeps, and the premise that is false, with its place.
use Rattle.std.specs.Prelude.{ℕ, List, Option}
use Rattle.qtt_base.specs.declared.place.Span.{Span}
use Rattle.qtt_base.specs.declared.limits.Quantity.{Quantity}
use Rattle.qtt_usage.specs.declared.mult.Mult.{Mult}
use Rattle.qtt_syntax.specs.Tree.{Shape}
use Rattle.qtt_term.specs.Term.{Term}
use Rattle.qtt_term.specs.declared.rule.Rule.{Rule}

-- What is kept: the two sides of a false premise. A number before terms is that of the variables of the context
-- in which they stand.
pub data Cause : Type 0 where
  needs_type : Cause
  not_a_function not_a_type not_a_family not_an_action : ℕ → (type : Term) → Cause
  mismatch dot_mismatch : ℕ → (expected found : Term) → Cause
  wrong_quantity : (expected found : Mult) → Cause
  -- the binder's name, where it has one
  wrong_usage : Option (List ℕ) → (declared used : Mult) → Cause
  wrong_level : (declared found : ℕ) → Cause
  wrong_arity : (expected found : ℕ) → Cause
  -- the core of the name
  erased_use : ℕ → (core : Term) → Cause
  -- an index equation, its sides as they stand where it arises
  pattern_stuck : ℕ → (left right : Term) → Cause
  -- the argument's name, where it has one
  erased_match : Option (List ℕ) → Cause
  -- the definition, and patterns that no clause covers
  missing : List ℕ → List Shape → Cause
  -- the definition
  unreachable no_clauses : List ℕ → Cause
  -- the definition, family or constructor
  core_refused : List ℕ → Cause
  limit : Quantity → ℕ → Cause
  -- the constructor, and the field's number from 0
  not_positive : List ℕ → ℕ → Cause
  wrong_main : Cause
  -- a form that no text has once it is read, its names are looked up and it has no hole
  unread : Cause

-- where a premise is asked: its place in the text, its rule, and its number there from 1
pub record Place : Type 0 where
  pub span : Span
  pub rule : Rule
  pub number : ℕ

abbrev pub at : Span → Rule → ℕ → Place
at s r k = record { span = s; rule = r; number = k }

pub record Refusal : Type 0 where
  pub cause : Cause
  pub place : Place

abbrev pub refused : Cause → Place → Refusal
refused c p = record { cause = c; place = p }
