-- The laws that the functions of this crate ensure.
use Rattle.std.specs.Prelude.{◌≡◌, ◌≢◌, ◌↔◌, ℕ, true, false, Option, None}
use Rattle.qtt_base.specs.declared.place.GlobalId.{GlobalId}
use Rattle.qtt_usage.specs.declared.mult.Mult.{Mult}
use Rattle.qtt_term.specs.Term.{Io, Form, Term, Terms, node, size, Sort, Pi, Fam}
use Rattle.qtt_term.specs.Signature.{Env, IoTy}
use Rattle.qtt_term.specs.Contraction.{Conv, BodiesClosed}
use Rattle.qtt_term.specs.Judgement.{Ctx, Part}
use Rattle.qtt_term.specs.Ask.{Ask, Ending, HeadIs, ReadingIs, Ends}
use Rattle.qtt_term.specs.Forms.{as_sort, as_function}
use Rattle.qtt_term.specs.Premises.{head_as, agree, alike}
use Rattle.qtt_term.specs.Infer.{Premise, Inferred, as_family, infer}
use Rattle.qtt_term.specs.Reading.{read_step}
use Rattle.qtt_confluence.specs.Injective.{Rigid}
use Rattle.qtt_confluence.specs.Heads.{IsHead}
use Rattle.qtt_confluence.specs.Standard.{HasHeadLike}
use Rattle.qtt_conclusions.specs.NormalForms.{WeakHeadNormal, IsRead}
use Rattle.qtt_conclusions.specs.Conclusions.{HeadOf, ReadingOf, Concludes}
use Rattle.qtt_conclusions.specs.Alike.{Alike, SameEnding, SameAnswer, SameFunction, SameLevel, SameAgreement, SameInferred}
use Rattle.qtt_conclusions.specs.Examples.{NormalFormsTell, ConclusionsTell}

-- a weak head normal form is what no contraction toward the head is left of, and what is read is what no contraction
-- toward the reading is left of
pub record NormalFormsAreSo (E : Env) : Type 0 where
  pub heads : (t : Term) → WeakHeadNormal E t ↔ IsHead E t
  pub readings : (t : Term) → IsRead E t ↔ (read_step E t ≡ None)

-- the head that contraction comes to is a head, and where there is a head at all contraction comes to one of its form;
-- the reading that contraction comes to is a reading
pub record HeadsAreSo (E : Env) : Type 0 where
  pub head : (t h : Term) → HeadIs E t h → HeadOf E t h
  pub reached : (t h : Term) → HeadOf E t h → HasHeadLike E t h
  pub reading : (t r : Term) → ReadingIs E t r → ReadingOf E t r

-- what a list ends with it concludes with
abbrev pub EndingsConclude : (F P A : Type 0) → Type 0
EndingsConclude F P A = (E : Env) → BodiesClosed E → (m : Ask F P A) (e : Ending F P A) → Ends E m e → Concludes E m e

-- where the head h of t has another form, no term of this form is convertible to t
pub record NoOtherForm (E : Env) (t h : Term) : Type 0 where
  pub function : as_function h ≡ None → (q : Mult) (A B : Term) → Conv E t (Pi q A B) → ⊥
  pub universe : as_sort h ≡ None → (l : ℕ) → Conv E t (Sort l) → ⊥
  pub family : (f : GlobalId) → ((ss : Terms) → h ≢ Fam f ss) → (ts : Terms) → Conv E t (Fam f ts) → ⊥
  pub action : (m : Io) → ((B : Term) → h ≢ IoTy m B) → (A : Term) → Conv E t (IoTy m A) → ⊥

-- a list that looks for a form, by a view that finds each term of the form, fails only where no term of the form is
-- convertible; and a list that compares answers as the terms are convertible or not
pub record RefusalsAreSo (F P A : Type 0) (E : Env) : Type 0 where
  pub head : (view : Term → Option A) (p : P) (n : ℕ) (t : Term) (f g : F) →
      Concludes E (head_as view p n t f) (Ending.fails g) → (h : Term) × HeadOf E t h × (view h ≡ None)
  pub form : (view : Term → Option A) (G : Form) (k : ℕ) → Rigid G →
      ((ss : Terms) → size ss ≡ k → view (node G ss) ≢ None) → (p : P) (n : ℕ) (t : Term) (f g : F) →
      Concludes E (head_as view p n t f) (Ending.fails g) → (ts : Terms) → size ts ≡ k → Conv E t (node G ts) → ⊥
  pub function : (p : P) (n : ℕ) (t : Term) (f g : F) →
      Concludes E (head_as as_function p n t f) (Ending.fails g) → (q : Mult) (A B : Term) → Conv E t (Pi q A B) → ⊥
  pub universe : (p : P) (n : ℕ) (t : Term) (f g : F) →
      Concludes E (head_as as_sort p n t f) (Ending.fails g) → (l : ℕ) → Conv E t (Sort l) → ⊥
  pub family : (p : P) (n : ℕ) (t : Term) (f g : F) (id : GlobalId) (k : ℕ) →
      Concludes E (head_as (as_family id k) p n t f) (Ending.fails g) → (ts : Terms) → size ts ≡ k →
      Conv E t (Fam id ts) → ⊥
  pub action : (view : Term → Option A) (m : Io) → ((B : Term) → view (IoTy m B) ≢ None) →
      (p : P) (n : ℕ) (t : Term) (f g : F) →
      Concludes E (head_as view p n t f) (Ending.fails g) → (B : Term) → Conv E t (IoTy m B) → ⊥
  pub mismatch : (p : P) (n : ℕ) (t s : Term) (f g : F) →
      Concludes E (agree p n t s f) (Ending.fails g) → Conv E t s → ⊥
  pub equal : (p : P) (n : ℕ) (t s : Term) → Concludes E {F = F} (alike p n t s) (Ending.ok true) → Conv E t s
  pub different : (p : P) (n : ℕ) (t s : Term) → Concludes E {F = F} (alike p n t s) (Ending.ok false) → Conv E t s → ⊥

-- lists that tell convertible terms not apart conclude alike; so no such list concludes both with an answer and with a
-- false premise, nor with two false premises
abbrev pub OneConclusion : (F P A B : Type 0) → Type 0
OneConclusion F P A B = (E : Env) (fixed : A → B) (terms : A → Terms) (m n : Ask F P A) (e r : Ending F P A) →
    Alike E (SameAnswer E fixed terms) m n → Concludes E m e → Concludes E n r →
    SameEnding (SameAnswer E fixed terms) e r

-- a question for a form, and a comparison, tell convertible terms not apart
pub record FormsAreAlike (F P : Type 0) (E : Env) : Type 0 where
  pub function : (p : P) (n : ℕ) (t s : Term) (f : F) → Conv E t s →
      Alike E (SameFunction E) (head_as as_function p n t f) (head_as as_function p n s f)
  pub universe : (p : P) (n : ℕ) (t s : Term) (f : F) → Conv E t s →
      Alike E (SameLevel E) (head_as as_sort p n t f) (head_as as_sort p n s f)
  pub comparison : (p : P) (n : ℕ) (t s u v : Term) (f : F) → Conv E t u → Conv E s v →
      Alike E (SameAgreement E) (agree p n t s f) (agree p n u v f)

-- the core judgement tells convertible terms not apart; so it concludes in one way: with one false premise, or with
-- convertible types and the same uses
pub record JudgementIsOne (E : Env) : Type 0 where
  pub alike : (p : Part) (Γ : Ctx) (t : Term) → Alike E (SameInferred E) (infer E p Γ t) (infer E p Γ t)
  pub one : (p : Part) (Γ : Ctx) (t : Term) (e r : Ending Premise (Unit {0}) Inferred) →
      Concludes E (infer E p Γ t) e → Concludes E (infer E p Γ t) r → SameEnding (SameInferred E) e r

-- the laws speak of something
pub record DefinitionsTell : Type 0 where
  pub normal_forms : NormalFormsTell
  pub conclusions : (E : Env) → BodiesClosed E → ConclusionsTell E
