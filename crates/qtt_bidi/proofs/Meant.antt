-- What an answer says of a whole expression: that it is derived, that a failure is one without a bound and with
-- convertible terms, and has no derivation, and which question is spent.
use Rattle.std.proofs.Common.{◌≡◌, ℕ, Result, Ok, Err, refl, subst}
use Rattle.qtt_syntax.specs.Tree.{Tree, Binders, Statements}
use Rattle.qtt_term.specs.Term.{Term}
use Rattle.qtt_term.specs.Contraction.{BodiesClosed}
use Rattle.qtt_term.specs.Judgement.{Part}
use Rattle.qtt_term.specs.Ask.{Ending, Ends, within}
use Rattle.qtt_term.specs.FirstSpent.{FirstSpent, Says}
use Rattle.qtt_term.specs.Entries.{Entries, env}
use Rattle.qtt_term.specs.Scope.{Scope}
use Rattle.qtt_confluence.proofs.Endings.{says, one-ending}
use Rattle.qtt_conclusions.specs.Conclusions.{Concludes}
use Rattle.qtt_conclusions.proofs.Heads.{conclude}
use Rattle.qtt_rules.specs.declared.errors.ElabError.{ElabError}
use Rattle.qtt_rules.specs.declared.errors.ElabError.TheVariants as error
use Rattle.qtt_rules.specs.Refusal.{Cause, Place, Refusal, at, refused}
use Rattle.qtt_rules.specs.Judged.{Judged, Mode}
use Rattle.qtt_bidi.specs.Answers.{Kept, kept, Reaches, Tells, Refuses, Gives}
use Rattle.qtt_bidi.specs.Elaboration.{judge}
use Rattle.qtt_bidi.specs.Elaborated.{WherePremise, WhereFails, WhereQuestion, WhereSpent, Elaborated}
use Rattle.qtt_bidi.specs.Rules.{Elaborates, CheckedLambda, Runs}
use Rattle.qtt_bidi.proofs.Derived.{derived}
use Rattle.qtt_bidi.proofs.Reached.{ends}

pub underived : (G : Entries) (p : Part) (S : Scope) (m : Mode) (e : Tree) → BodiesClosed (env G) → (r : Refusal)
    (j : Judged) → Ends (env G) (judge G p S m e) (Ending.fails r) → Elaborates G p S m e j → ⊥
underived G p S m e bodies r j x d =
    let h : ◌≡◌ {A = Ending Refusal Place Judged} (Ending.fails r) (Ending.ok j) =
    one-ending (env G) bodies (judge G p S m e) (Ending.fails r) (Ending.ok j) x (ends d) in cc h

-- what an ending within a budget says
pub ending : (G : Entries) (n : ℕ) (p : Part) (S : Scope) (m : Mode) (e : Tree) (r : Ending Refusal Place Judged) →
    within (env G) n (judge G p S m e) ≡ r → Says (env G) n (judge G p S m e) r
ending G n p S m e r h = subst (λ r. Says (env G) n (judge G p S m e) r) h (says (env G) n (judge G p S m e))

module _ (G : Entries) (n : ℕ) (p : Part) (S : Scope) (m : Mode) (e : Tree) (bodies : BodiesClosed (env G)) where
  abbrev FailsSo : Cause → Place → Type 0
  FailsSo c w = Ends (env G) (judge G p S m e) (Ending.fails (refused c w))

  abbrev IsFalseSo : Cause → Place → Type 0
  IsFalseSo c w = Concludes (env G) (judge G p S m e) (Ending.fails (refused c w))

  abbrev HasNone : Cause → Place → Type 0
  HasNone c w = (j : Judged) → Elaborates G p S m e j → ⊥

  failed-so : (k : Kept) (w : Place) → Tells (env G) n (judge G p S m e) w k → WherePremise k w FailsSo
  failed-so (Kept.premise c) w h = ending G n p S m e (Ending.fails (refused c w)) h.is
  failed-so (Kept.question_of b q) w h = tt
  failed-so Kept.nothing w h = tt

  false-so : (k : Kept) (w : Place) → WherePremise k w FailsSo → WherePremise k w IsFalseSo
  false-so (Kept.premise c) w h = conclude bodies h
  false-so (Kept.question_of b q) w h = tt
  false-so Kept.nothing w h = tt

  has-none : (k : Kept) (w : Place) → WherePremise k w FailsSo → WherePremise k w HasNone
  has-none (Kept.premise c) w h = λ j d. underived G p S m e bodies (refused c w) j h d
  has-none (Kept.question_of b q) w h = tt
  has-none Kept.nothing w h = tt

  spent-so : (k : Kept) (w : Place) → Tells (env G) n (judge G p S m e) w k →
      WhereQuestion k w (λ w q. FirstSpent (env G) n (judge G p S m e) w q)
  spent-so (Kept.premise c) w h = tt
  spent-so (Kept.question_of b q) w h = ending G n p S m e (Ending.spent w q) h.is
  spent-so Kept.nothing w h = tt

  refusal-is-so : (r : ElabError) → Refuses (env G) n (judge G p S m e) r →
      WhereFails r FailsSo × WhereFails r IsFalseSo × WhereFails r HasNone
      × WhereSpent r (λ w q. FirstSpent (env G) n (judge G p S m e) w q)
  refusal-is-so (error.Refused d s r k) h =
      let f = failed-so (kept d) (at s r k) h in
      (f, false-so (kept d) (at s r k) f, has-none (kept d) (at s r k) f, spent-so (kept d) (at s r k) h)
  refusal-is-so error.Memory h = (tt, tt, tt, tt)

  -- the call's answer, and what it says
  pub elaborated : {X : Type 0} (view : X → Judged) (r : Result X ElabError) →
      Gives (env G) n (judge G p S m e) view r → Elaborated G n p S m e view r
  elaborated view (Ok x) h = record {
    gives = h;
    sound = derived e G p S m (view x) (ending G n p S m e (Ending.ok (view x)) h.is);
    failed = tt;
    false_so = tt;
    underived = tt;
    spent = tt;
  }
  elaborated view (Err r) h =
      let so = refusal-is-so r h in
      record { gives = h; sound = tt; failed = so.0; false_so = so.1; underived = so.2; spent = so.3 }

-- ---- in check mode the type is the given one
mutual
  pub given-type : {G : Entries} {p : Part} {S : Scope} {A : Term} {e : Tree} {j : Judged} →
      Elaborates G p S (Mode.check A) e j → j.type ≡ A
  given-type (Elaborates.switch f c) = refl
  given-type (Elaborates.lam_check l) = given-function l
  given-type (Elaborates.con_check c t h x s) = refl
  given-type (Elaborates.pure c h x) = refl
  given-type (Elaborates.let_in v b f) = refl
  given-type (Elaborates.block r) = given-block r

  given-function : {G : Entries} {p : Part} {S : Scope} {A : Term} {bs : Binders} {e : Tree} {j : Judged} →
      CheckedLambda G p S A bs e j → j.type ≡ A
  given-function (CheckedLambda.checked_body d) = given-type d
  given-function (CheckedLambda.checked_binder h a b f) = refl

  given-block : {G : Entries} {p : Part} {S : Scope} {A : Term} {ss : Statements} {j : Judged} →
      Runs G p S (Mode.check A) ss j → j.type ≡ A
  given-block (Runs.last d) = given-type d
  given-block (Runs.act a h d x r f) = refl
  given-block (Runs.let_then v r f) = refl

pub checked-type : (G : Entries) (n : ℕ) (p : Part) (S : Scope) (A : Term) (e : Tree) (j : Judged) →
    Reaches (env G) n (judge G p S (Mode.check A) e) j → j.type ≡ A
checked-type G n p S A e j h =
    given-type (derived e G p S (Mode.check A) j (ending G n p S (Mode.check A) e (Ending.ok j) h.is))
