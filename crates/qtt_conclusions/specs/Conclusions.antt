-- How a list of questions concludes, with convertible terms in place of contractions and comparisons.
use Rattle.std.specs.Prelude.{◌≡◌, ℕ}
use Rattle.qtt_term.specs.Term.{Term}
use Rattle.qtt_term.specs.Signature.{Env}
use Rattle.qtt_term.specs.Contraction.{Conv}
use Rattle.qtt_term.specs.Ask.{Ask, Ending}
use Rattle.qtt_confluence.specs.Injective.{Convs}
use Rattle.qtt_confluence.specs.Heads.{outline, parts}
use Rattle.qtt_conclusions.specs.NormalForms.{WeakHeadNormal, IsRead}

-- the same outermost form, with the same fixed parts, and convertible components
pub record SameForm (E : Env) (t s : Term) : Type 0 where
  pub outlines : outline t ≡ outline s
  pub components : Convs E (parts t) (parts s)

-- h is a head of t: a weak head normal form that is convertible to t, and every weak head normal form that is
-- convertible to t has its form
pub record HeadOf (E : Env) (t h : Term) : Type 0 where
  pub normal : WeakHeadNormal E h
  pub convertible : Conv E t h
  pub alone : (s : Term) → WeakHeadNormal E s → Conv E t s → SameForm E s h

-- r is a reading of t: a head of t that is read
pub record ReadingOf (E : Env) (t r : Term) : Type 0 where
  pub head : HeadOf E t r
  pub read : IsRead E r

-- a list concludes with an answer or with a false premise: it goes on with a head where it asks for a head, with a
-- reading where it asks for a reading, and after a comparison as the terms are convertible or not
pub data Concludes (E : Env) {F P A : Type 0} : Ask F P A → Ending F P A → Type 0 where
  is_done : {a : A} → Concludes E (Ask.done a) (Ending.ok a)
  has_failed : {f : F} → Concludes E (Ask.fail f) (Ending.fails f)
  has_head : {p : P} {d : ℕ} {t h : Term} {g : Term → Ask F P A} {e : Ending F P A} →
      HeadOf E t h → Concludes E (g h) e → Concludes E (Ask.head p d t g) e
  has_reading : {p : P} {d : ℕ} {t r : Term} {g : Term → Ask F P A} {e : Ending F P A} →
      ReadingOf E t r → Concludes E (g r) e → Concludes E (Ask.read p d t g) e
  are_convertible : {p : P} {d : ℕ} {t s : Term} {m w : Ask F P A} {e : Ending F P A} →
      Conv E t s → Concludes E m e → Concludes E (Ask.compare p d t s m w) e
  are_apart : {p : P} {d : ℕ} {t s : Term} {m w : Ask F P A} {e : Ending F P A} →
      (Conv E t s → ⊥) → Concludes E w e → Concludes E (Ask.compare p d t s m w) e
