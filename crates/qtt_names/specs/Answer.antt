-- What looking up names answers: a value, or the first fault.
use Rattle.std.specs.Prelude.{ℕ, List, Result, Ok, Err}
use Rattle.qtt_base.specs.declared.place.Span.{Span}

-- a fault of kind 10, 11 or 12, with its name and the name's place; the count is 0
pub record Mistake : Type 0 where
  pub kind : ℕ
  pub span : Span
  pub word : List ℕ
  pub count : ℕ

abbrev pub Answer : Type 0 → Type 0
Answer A = Result A Mistake

abbrev pub mistake : ℕ → List ℕ → Span → Mistake
mistake kind n s = record { kind = kind; span = s; word = n; count = 0 }

-- no such thing is in scope
abbrev pub unbound : {A : Type 0} → List ℕ → Span → Answer A
unbound n s = Err (mistake 10 n s)

-- several things of the name are in scope
abbrev pub ambiguous : {A : Type 0} → List ℕ → Span → Answer A
ambiguous n s = Err (mistake 11 n s)

-- the second thing of its name
abbrev pub duplicate : {A : Type 0} → List ℕ → Span → Answer A
duplicate n s = Err (mistake 12 n s)

infixl 10 ◌>>=◌
-- the one, and then the other with its value; the first fault of the two is the fault of both
unfoldable pub ◌>>=◌ : {A B : Type 0} → Answer A → (A → Answer B) → Answer B
Ok a >>= k = k a
Err e >>= k = Err e
