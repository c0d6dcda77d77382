-- A judgement that is asked at one place, and the level of a goal.
use Rattle.std.proofs.Common.{◌≡◌, ◌∙◌, ℕ, Bool, true, false, List, length, Option, Some, None, refl, sym, ap}
use Rattle.qtt_usage.specs.declared.mult.Mult.{Mult}
use Rattle.qtt_term.specs.Term.{Term}
use Rattle.qtt_term.specs.Signature.{Env}
use Rattle.qtt_term.specs.Judgement.{Ctx, Part}
use Rattle.qtt_term.specs.Infer.{Premise, Inferred, inferred, infer}
use Rattle.qtt_term.specs.Infer as core
use Rattle.qtt_term.specs.Question as question
use Rattle.qtt_term.specs.Reading as reading
use Rattle.qtt_term.specs.Ask.{Ask, ◌>>=◌, asked_at, Question, Ending, within, on_head, on_answer}
use Rattle.qtt_rules.specs.Refusal.{Place, Refusal}
use Rattle.qtt_rules.specs.Asks.{Asks, head_of}
use Rattle.qtt_split.specs.Answers.{Reaches}
use Rattle.qtt_split.specs.Levels.{type_of_goal, level_of_type}
use Rattle.qtt_split.specs.Split.{level_in, level_of, level_where}
use Rattle.qtt_term.specs.declared.convert.Question as code_question
use Rattle.qtt_term.specs.declared.convert.Question.TheVariants as asked_question
use Rattle.qtt_core_check.specs.Seen as seen
use Rattle.qtt_unify.specs.View as view
use Rattle.qtt_unify.proofs.Within.{onward, within-then}
use Rattle.qtt_split.proofs.Within.{past, on_done}

module _ (E : Env) (n : ℕ) (p : Place) {A B : Type 0} (next : A → Asks B) (otherwise : Premise → Asks B) where
  abbrev ended : Ending Premise (Unit {0}) A → Ending Refusal Place B
  ended (Ending.ok a) = within E n (next a)
  ended (Ending.fails f) = within E n (otherwise f)
  ended (Ending.spent u q) = Ending.spent p q

  by_head : (H : question.Head) (g : Term → Ending Premise (Unit {0}) A) (h : Term → Ending Refusal Place B)
      (q : Question) → ((x : Term) → h x ≡ ended (g x)) →
      on_head H h (Ending.spent p q) ≡ ended (on_head H g (Ending.spent tt q))
  unfolding on_head
  by_head (question.Head.done x made) g h q same = same x
  by_head question.Head.spent g h q same = refl

  by_answer : (a : question.Answer) (m w : Ending Premise (Unit {0}) A) (m' w' : Ending Refusal Place B)
      (q : Question) → m' ≡ ended m → w' ≡ ended w →
      on_answer a m' w' (Ending.spent p q) ≡ ended (on_answer a m w (Ending.spent tt q))
  unfolding on_answer
  by_answer question.Answer.equal m w m' w' q d e = d
  by_answer (question.Answer.different path) m w m' w' q d e = e
  by_answer question.Answer.spent m w m' w' q d e = refl

  pub asked : (m : core.Asks A) → within E n (asked_at p m next otherwise) ≡ ended (within E n m)
  unfolding asked_at within
  asked (Ask.done a) = refl
  asked (Ask.fail f) = refl
  asked (Ask.head u d t g) =
      by_head (question.head E n t) (λ x. within E n (g x)) (λ x. within E n (asked_at p (g x) next otherwise))
      (Question.head_of d t) (λ x. asked (g x))
  asked (Ask.read u d t g) =
      by_head (reading.read E n t) (λ x. within E n (g x)) (λ x. within E n (asked_at p (g x) next otherwise))
      (Question.head_of d t) (λ x. asked (g x))
  asked (Ask.compare u d t s m w) =
      by_answer (question.compare E n t s) (within E n m) (within E n w)
      (within E n (asked_at p m next otherwise)) (within E n (asked_at p w next otherwise))
      (Question.compared d t s) (asked m) (asked w)

-- ---- the type of a goal
module _ (E : Env) (n : ℕ) (Γ : Ctx) (p : Place) (A : Term) where
  abbrev judging : core.Asks Inferred
  judging = infer E Part.erased Γ A

  abbrev some_type : Inferred → Asks (Option Term)
  some_type j = Ask.done (Some j.type)

  abbrev no_type : Premise → Asks (Option Term)
  no_type e = Ask.done None

  pub type-found : (T : Term) (us : List Mult) → within E n judging ≡ Ending.ok (inferred T us) →
      Reaches E n (type_of_goal E Γ p A) (Some T)
  unfolding within
  type-found T us e = record {
    is = asked E n p some_type no_type judging ∙ ap (ended E n p some_type no_type) e;
  }

  pub no-type : (f : Premise) → within E n judging ≡ Ending.fails f → Reaches E n (type_of_goal E Γ p A) None
  unfolding within
  no-type f e = record { is = asked E n p some_type no_type judging ∙ ap (ended E n p some_type no_type) e }

  pub type-spent : (q : Question) → within E n judging ≡ Ending.spent tt q →
      within E n (type_of_goal E Γ p A) ≡ Ending.spent p q
  type-spent q e = asked E n p some_type no_type judging ∙ ap (ended E n p some_type no_type) e

  -- ---- its level
  abbrev by_type : Inferred → Asks ℕ
  by_type j = Ask.head p (length Γ) j.type (λ h. Ask.done (level_in h))

  abbrev zero_level : Premise → Asks ℕ
  zero_level e = Ask.done 0

  abbrev then_level : Option Term → Asks ℕ
  then_level = level_of_type p (length Γ)

  level-asked : within E n (level_of E Γ p A) ≡ ended E n p by_type zero_level (within E n judging)
  unfolding level_of
  level-asked = asked E n p by_type zero_level judging

  by_ending : (e : Ending Premise (Unit {0}) Inferred) → within E n judging ≡ e →
      within E n (level_of E Γ p A) ≡ within E n (type_of_goal E Γ p A >>= then_level)
  by_ending (Ending.ok j) h =
      level-asked ∙ ap (ended E n p by_type zero_level) h ∙
      sym (past E n (type_of_goal E Γ p A) then_level (type-found j.type j.uses h))
  by_ending (Ending.fails f) h =
      level-asked ∙ ap (ended E n p by_type zero_level) h ∙
      sym (past E n (type_of_goal E Γ p A) then_level (no-type f h))
  by_ending (Ending.spent u q) h =
      level-asked ∙ ap (ended E n p by_type zero_level) h ∙
      sym (within-then E n (type_of_goal E Γ p A) then_level ∙
      ap (λ x. onward x (λ o. within E n (then_level o)))
      (asked E n p some_type no_type judging ∙ ap (ended E n p some_type no_type) h))

  pub level-alike : within E n (level_of E Γ p A) ≡ within E n (type_of_goal E Γ p A >>= then_level)
  level-alike = by_ending (within E n judging) refl

-- ---- the question that is spent
pub questions-alike : (q : code_question.Question) → seen.question q ≡ view.question q
questions-alike (asked_question.Head d t) = refl
questions-alike (asked_question.Compare d t s) = refl

-- ---- the head of a type, and then its level
pub head-then : (E : Env) (n : ℕ) (p : Place) (d : ℕ) (T : Term) →
    within E n (level_of_type p d (Some T))
    ≡ within E n (head_of p d T >>= (λ h. Ask.done (level_in h)))
unfolding within ◌>>=◌
head-then E n p d T = refl

pub level-unasked : (E : Env) (n : ℕ) (b : Bool) (m : Asks ℕ) → b ≡ false → Reaches E n (level_where b m) 0
level-unasked E n true m h = absurd (cc h)
level-unasked E n false m h = on_done
