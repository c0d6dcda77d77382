-- Premises of any judgement, whatever a false one leaves and wherever questions are asked: a test, what is there, a
-- head of a form that is looked for, and a comparison.
use Rattle.std.specs.Prelude.{ℕ, Bool, true, false, Option, Some, None}
use Rattle.qtt_term.specs.Term.{Term}
use Rattle.qtt_term.specs.Ask.{Ask}

unfoldable pub need : {F P : Type 0} → Bool → F → Ask F P (Unit {0})
need true f = Ask.done tt
need false f = Ask.fail f

-- what is there
abbrev pub found : {F P A : Type 0} → Option A → F → Ask F P A
found (Some a) f = Ask.done a
found None f = Ask.fail f

-- ---- questions of terms under n variables
abbrev pub head_of : {F P : Type 0} → P → ℕ → Term → Ask F P Term
head_of p n t = Ask.head p n t (λ h. Ask.done h)

abbrev pub reading_of : {F P : Type 0} → P → ℕ → Term → Ask F P Term
reading_of p n t = Ask.read p n t (λ r. Ask.done r)

-- whether two terms compare Equal
abbrev pub alike : {F P : Type 0} → P → ℕ → Term → Term → Ask F P Bool
alike p n t s = Ask.compare p n t s (Ask.done true) (Ask.done false)

-- the head of a term has the form that is looked for
abbrev pub head_as : {F P A : Type 0} → (Term → Option A) → P → ℕ → Term → F → Ask F P A
head_as view p n t f = Ask.head p n t (λ h. found (view h) f)

-- what was found compares Equal to what is wanted
abbrev pub agree : {F P : Type 0} → P → ℕ → Term → Term → F → Ask F P (Unit {0})
agree p n found wanted f = Ask.compare p n found wanted (Ask.done tt) (Ask.fail f)
