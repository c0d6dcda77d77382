-- Lists of questions that tell convertible terms not apart.
use Rattle.std.specs.Prelude.{◌≡◌, ℕ}
use Rattle.qtt_term.specs.Term.{Term, Terms, ε, ◌▸◌}
use Rattle.qtt_term.specs.Signature.{Env}
use Rattle.qtt_term.specs.Contraction.{Conv}
use Rattle.qtt_term.specs.Ask.{Ask, Ending}
use Rattle.qtt_term.specs.Forms.{Function}
use Rattle.qtt_term.specs.Infer.{Inferred}
use Rattle.qtt_confluence.specs.Injective.{Convs}
use Rattle.qtt_conclusions.specs.Conclusions.{HeadOf, ReadingOf}

-- two lists ask the same of convertible terms, go on alike whichever head and whichever reading each is told, fail
-- alike, and have answers between which Same holds
pub data Alike (E : Env) {F P A : Type 0} (Same : A → A → Type 0) : Ask F P A → Ask F P A → Type 0 where
  done : {a b : A} → Same a b → Alike E Same (Ask.done a) (Ask.done b)
  fail : {f : F} → Alike E Same (Ask.fail f) (Ask.fail f)
  head : {p q : P} {c d : ℕ} {t s : Term} {g l : Term → Ask F P A} → Conv E t s →
      ((h k : Term) → HeadOf E t h → HeadOf E s k → Alike E Same (g h) (l k)) →
      Alike E Same (Ask.head p c t g) (Ask.head q d s l)
  read : {p q : P} {c d : ℕ} {t s : Term} {g l : Term → Ask F P A} → Conv E t s →
      ((h k : Term) → ReadingOf E t h → ReadingOf E s k → Alike E Same (g h) (l k)) →
      Alike E Same (Ask.read p c t g) (Ask.read q d s l)
  compare : {p q : P} {c d : ℕ} {t s u v : Term} {m w n x : Ask F P A} → Conv E t u → Conv E s v →
      Alike E Same m n → Alike E Same w x → Alike E Same (Ask.compare p c t s m w) (Ask.compare q d u v n x)

-- two answers between which Same holds, or one false premise
pub data SameEnding {F P A : Type 0} (Same : A → A → Type 0) : Ending F P A → Ending F P A → Type 0 where
  ok : {a b : A} → Same a b → SameEnding Same (Ending.ok a) (Ending.ok b)
  fails : {f : F} → SameEnding Same (Ending.fails f) (Ending.fails f)

-- answers with the same fixed part and convertible terms
pub record SameAnswer (E : Env) {A B : Type 0} (fixed : A → B) (terms : A → Terms) (a b : A) : Type 0 where
  pub fixed_parts : fixed a ≡ fixed b
  pub components : Convs E (terms a) (terms b)

-- two function types of one multiplicity, with convertible domains and codomains
abbrev pub SameFunction : Env → Function → Function → Type 0
SameFunction E = SameAnswer E (λ (f : Function). f.mult) (λ (f : Function). f.domain ▸ f.codomain ▸ ε)

-- one level
abbrev pub SameLevel : Env → ℕ → ℕ → Type 0
SameLevel E = SameAnswer E (λ (l : ℕ). l) (λ (l : ℕ). ε)

-- that a comparison found no difference
abbrev pub SameAgreement : Env → Unit {0} → Unit {0} → Type 0
SameAgreement E = SameAnswer E (λ (a : Unit {0}). a) (λ (a : Unit {0}). ε)

-- the same uses, and convertible types
abbrev pub SameInferred : Env → Inferred → Inferred → Type 0
SameInferred E = SameAnswer E (λ (j : Inferred). j.uses) (λ (j : Inferred). j.type ▸ ε)
