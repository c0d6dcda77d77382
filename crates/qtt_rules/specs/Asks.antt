-- The questions of the judgements of a text: what a false premise leaves is a refusal, and each is asked at a place.
use Rattle.std.specs.Prelude.{ℕ, Bool, Option}
use Rattle.qtt_term.specs.Term.{Term}
use Rattle.qtt_term.specs.Ask.{Ask}
use Rattle.qtt_term.specs.Premises as premises
use Rattle.qtt_rules.specs.Refusal.{Cause, Place, Refusal, refused}

abbrev pub Asks : Type 0 → Type 0
Asks A = Ask Refusal Place A

abbrev pub refuse : {A : Type 0} → Cause → Place → Asks A
refuse c p = Ask.fail (refused c p)

abbrev pub need : Bool → Cause → Place → Asks (Unit {0})
need b c p = premises.need b (refused c p)

-- what is there, or else the refusal
abbrev pub found : {A : Type 0} → Option A → Cause → Place → Asks A
found o c p = premises.found o (refused c p)

-- ---- questions of terms under n variables
abbrev pub head_of : Place → ℕ → Term → Asks Term
head_of p n t = premises.head_of p n t

abbrev pub reading_of : Place → ℕ → Term → Asks Term
reading_of p n t = premises.reading_of p n t

-- whether two terms compare Equal
abbrev pub alike : Place → ℕ → Term → Term → Asks Bool
alike p n t s = premises.alike p n t s

-- the head of a type has the form that is looked for; the refusal keeps the type itself
abbrev pub head_as : {A : Type 0} → (Term → Option A) → (ℕ → Term → Cause) → ℕ → Term → Place → Asks A
head_as view kept n T p = premises.head_as view p n T (refused (kept n T) p)

-- what was found compares Equal to what is expected
abbrev pub agree : ℕ → (found expected : Term) → Place → Asks (Unit {0})
agree n found expected p = premises.agree p n found expected (refused (Cause.mismatch n expected found) p)
