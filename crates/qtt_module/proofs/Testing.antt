-- What an answer of the test of a main says: that a definition is the main, that a failure is one without a bound and
-- with convertible terms, and then there is no main, and which question is spent.
use Rattle.std.proofs.Common.{◌≡◌, ◌∙◌, ℕ, true, List, Option, Some, None, Result, Ok, Err, refl, ap, subst}
use Rattle.qtt_base.specs.declared.place.GlobalId.{GlobalId}
use Rattle.qtt_base.specs.declared.place.Span.{Span}
use Rattle.qtt_usage.specs.declared.mult.Mult.{Mult}
use Rattle.qtt_usage.specs.Mult.{𝟘, 𝟙, ω}
use Rattle.qtt_term.specs.Contraction.{BodiesClosed}
use Rattle.qtt_term.specs.Infer.{usable}
use Rattle.qtt_term.specs.Judgement.{Part}
use Rattle.qtt_term.specs.Question as question
use Rattle.qtt_term.specs.Signature.{definition_at, UnitTy, IoTy}
use Rattle.qtt_term.specs.Term.{Io, Term}
use Rattle.qtt_term.specs.declared.rule.Rule.TheVariants as rule
use Rattle.qtt_term.specs.Ask.{Question, Ending, Ends, within, on_answer}
use Rattle.qtt_term.specs.FirstSpent.{FirstSpent, Says}
use Rattle.qtt_term.specs.Entries.{Entries, env}
use Rattle.qtt_confluence.proofs.Endings.{says, one-ending}
use Rattle.qtt_conclusions.specs.Conclusions.{Concludes}
use Rattle.qtt_conclusions.proofs.Heads.{conclude}
use Rattle.qtt_rules.specs.declared.errors.ElabError.{ElabError}
use Rattle.qtt_rules.specs.declared.errors.ElabError.TheVariants as error
use Rattle.qtt_rules.specs.Refusal.{Cause, Place, Refusal, at, refused}
use Rattle.qtt_bidi.specs.Answers.{Kept, kept, Reaches, Fails, Spends, Tells, Refuses, Gives}
use Rattle.qtt_bidi.specs.Elaborated.{WherePremise, WhereFails, WhereQuestion, WhereSpent}
use Rattle.qtt_rules.specs.Asks.{need}
use Rattle.qtt_bidi.proofs.Within.{on, holds, unmet, fails_here, fails_later}
use Rattle.qtt_module.specs.Main.{main}
use Rattle.qtt_module.specs.MainCall.{TestsMain}
use Rattle.qtt_module.specs.ModuleRules.{IsMain}
use Rattle.qtt_module.proofs.Mains.{main_so, so_main}
use Rattle.qtt_module.proofs.Onward.{past}

module _ (G : Entries) (n : ℕ) (s : Span) (named : Option GlobalId) (bodies : BodiesClosed (env G)) where
  abbrev FailsSo : Cause → Place → Type 0
  FailsSo c w = Ends (env G) (main G s named) (Ending.fails (refused c w))

  abbrev IsFalseSo : Cause → Place → Type 0
  IsFalseSo c w = Concludes (env G) (main G s named) (Ending.fails (refused c w))

  abbrev IsNone : Cause → Place → Type 0
  IsNone c w = (d : GlobalId) → IsMain G named d → ⊥

  ending : (r : Ending Refusal Place GlobalId) → within (env G) n (main G s named) ≡ r →
      Says (env G) n (main G s named) r
  ending r h = subst (λ r. Says (env G) n (main G s named) r) h (says (env G) n (main G s named))

  none-is : (c : Cause) (w : Place) → FailsSo c w → IsNone c w
  none-is c w x d m =
      let e : ◌≡◌ {A = Ending Refusal Place GlobalId} (Ending.fails (refused c w)) (Ending.ok d) =
      one-ending (env G) bodies (main G s named) (Ending.fails (refused c w)) (Ending.ok d) x
      (so_main G s named d m) in cc e

  failed-so : (k : Kept) (w : Place) → Tells (env G) n (main G s named) w k → WherePremise k w FailsSo
  failed-so (Kept.premise c) w h = ending (Ending.fails (refused c w)) h.is
  failed-so (Kept.question_of b q) w h = tt
  failed-so Kept.nothing w h = tt

  false-so : (k : Kept) (w : Place) → WherePremise k w FailsSo → WherePremise k w IsFalseSo
  false-so (Kept.premise c) w h = conclude bodies h
  false-so (Kept.question_of b q) w h = tt
  false-so Kept.nothing w h = tt

  none-so : (k : Kept) (w : Place) → WherePremise k w FailsSo → WherePremise k w IsNone
  none-so (Kept.premise c) w h = none-is c w h
  none-so (Kept.question_of b q) w h = tt
  none-so Kept.nothing w h = tt

  spent-so : (k : Kept) (w : Place) → Tells (env G) n (main G s named) w k →
      WhereQuestion k w (λ w q. FirstSpent (env G) n (main G s named) w q)
  spent-so (Kept.premise c) w h = tt
  spent-so (Kept.question_of b q) w h = ending (Ending.spent w q) h.is
  spent-so Kept.nothing w h = tt

  refusal-is-so : (r : ElabError) → Refuses (env G) n (main G s named) r →
      WhereFails r FailsSo × WhereFails r IsFalseSo × WhereFails r IsNone
      × WhereSpent r (λ w q. FirstSpent (env G) n (main G s named) w q)
  refusal-is-so (error.Refused d p r k) h =
      let f = failed-so (kept d) (at p r k) h in
      (f, false-so (kept d) (at p r k) f, none-so (kept d) (at p r k) f, spent-so (kept d) (at p r k) h)
  refusal-is-so error.Memory h = (tt, tt, tt, tt)

  pub tested : (r : Result GlobalId ElabError) → Gives (env G) n (main G s named) (λ d. d) r → TestsMain G n s named r
  tested (Ok d) h = record {
    gives = h;
    sound = main_so G s named d (ending (Ending.ok d) h.is);
    failed = tt;
    false_so = tt;
    underived = tt;
    spent = tt;
  }
  tested (Err r) h =
      let so = refusal-is-so r h in
      record { gives = h; sound = tt; failed = so.0; false_so = so.1; underived = so.2; spent = so.3 }

-- ---- how the test ends
pub used : (q : Mult) → (q ≡ 𝟘 → ⊥) → usable Part.run q ≡ true
used 𝟘 h = absurd (h refl)
used 𝟙 h = refl
used ω h = refl

module _ (G : Entries) (n : ℕ) (s : Span) where
  pub no-main : Fails (env G) n (main G s None) Cause.wrong_main (at s rule.Main 1)
  unfolding within
  no-main = record { is = refl }

  module _ (d : GlobalId) where
    abbrev pub type_of : Term
    type_of = (definition_at (env G) d).type

    pub unused-main : (definition_at (env G) d).mult ≡ 𝟘 →
        Fails (env G) n (main G s (Some d)) Cause.wrong_main (at s rule.Main 1)
    unused-main e = fails_here _ (unmet _ _ _ (ap (usable Part.run) e))

    module _ (u : usable Part.run (definition_at (env G) d).mult ≡ true) where
      pub equal-main : question.compare (env G) n type_of (IoTy Io.io UnitTy) ≡ question.Answer.equal →
          Reaches (env G) n (main G s (Some d)) d
      unfolding within on_answer
      equal-main e = on _ (holds _ _ _ u) (record {
        is = ap (λ a. on_answer a (Ending.ok d) (Ending.fails (refused Cause.wrong_main (at s rule.Main 2)))
            (Ending.spent (at s rule.Main 2) (Question.compared 0 type_of (IoTy Io.io UnitTy)))) e;
      })

      pub other-main : (path : List ℕ) →
          question.compare (env G) n type_of (IoTy Io.io UnitTy) ≡ question.Answer.different path →
          Fails (env G) n (main G s (Some d)) Cause.wrong_main (at s rule.Main 2)
      unfolding within on_answer
      other-main path e = fails_later _ (holds _ _ _ u) (record {
        is = ap (λ a. on_answer a (Ending.ok d) (Ending.fails (refused Cause.wrong_main (at s rule.Main 2)))
            (Ending.spent (at s rule.Main 2) (Question.compared 0 type_of (IoTy Io.io UnitTy)))) e;
      })

      pub spent-main : question.compare (env G) n type_of (IoTy Io.io UnitTy) ≡ question.Answer.spent →
          Spends (env G) n (main G s (Some d)) n (at s rule.Main 2) (Question.compared 0 type_of (IoTy Io.io UnitTy))
      unfolding within on_answer
      spent-main e = record {
        budget = refl;
        is = past (env G) n (need (usable Part.run (definition_at (env G) d).mult) Cause.wrong_main (at s rule.Main 1))
            _ tt (holds _ _ _ u)
            ∙ ap (λ a. on_answer a (Ending.ok d) (Ending.fails (refused Cause.wrong_main (at s rule.Main 2)))
            (Ending.spent (at s rule.Main 2) (Question.compared 0 type_of (IoTy Io.io UnitTy)))) e;
      }
