-- The machine over the code of a typed environment answers what full evaluation gives.
use Rattle.std.proofs.Common.{◌≡◌, ℕ, zero, suc, List, [], refl, sym, ap, subst}
use Rattle.qtt_base.specs.declared.place.GlobalId.{GlobalId}
use Rattle.qtt_usage.specs.declared.mult.Mult.{Mult}
use Rattle.qtt_usage.specs.Mult.{𝟘, 𝟙, ω}
use Rattle.qtt_usage.specs.Uses.{Use}
use Rattle.qtt_term.specs.Term.{Term, App, Def}
use Rattle.qtt_term.specs.Signature.{Env}
use Rattle.qtt_term.specs.FullStep as full
use Rattle.qtt_term.specs.FullStep.{full_step}
use Rattle.qtt_term.specs.Judgement.{Part, Usable}
use Rattle.qtt_term.specs.Environment.{WellFormed, Complete}
use Rattle.qtt_term.proofs.Evaluation.{full-move}
use Rattle.qtt_erase.specs.Step.{Outcome}
use Rattle.qtt_erase.specs.Lean.{Lean, lean_step}
use Rattle.qtt_erase.specs.Erasure.{erase, erased_bodies}
use Rattle.qtt_erase.specs.Laws.{erased_step}
use Rattle.qtt_erase.proofs.InStep.{Agrees, term-agrees}
use Rattle.qtt_preserve.specs.Within.{Has}
use Rattle.qtt_preserve.proofs.Sound.{sound_of, bodied_of}
use Rattle.qtt_preserve.proofs.Preservation.{preservation}
use Rattle.qtt_preserve.proofs.Progress.{Goes, progress}
use Rattle.qtt_code.specs.Value.{Value}
use Rattle.qtt_code.specs.Machine.{State, start, called}
use Rattle.qtt_lower.specs.Programs.{bodies, lean_bodies, flat_program}
use Rattle.qtt_lower.specs.Evaluation as erased
use Rattle.qtt_lower.specs.Laws.{ProgramRuns}
use Rattle.qtt_lower.proofs.Whole.{programs-are-lowered}
use Rattle.qtt_lower.proofs.Running.{programs-run}
use Rattle.qtt_run.specs.Code.{Lists, code, first_block, IsValueOf, Represents}
use Rattle.qtt_run.specs.Evaluation.{Ending, Evaluation, stopped, continued, evaluated, Answers, AnswersAs}
use Rattle.qtt_run.proofs.Used.{has-clean, bodies-clean}
use Rattle.qtt_run.proofs.Whole.{bodies-whole}

-- ---- what full evaluation gives, erased
abbrev erased_ending : Env → Ending → erased.Ending
erased_ending E (Ending.value t) = erased.Ending.value (erase E [] t)
erased_ending E (Ending.trapped k) = erased.Ending.trapped k
erased_ending E Ending.stuck = erased.Ending.stuck
erased_ending E Ending.going = erased.Ending.going

abbrev NotStuck : Ending → Type 0
NotStuck Ending.stuck = ⊥
NotStuck _ = Unit {0}

-- the evaluation of the erased term is the erased evaluation, which is not stuck
record Alike (E : Env) (x : Evaluation) (y : erased.Evaluation) : Type 0 where
  same : y ≡ record { made = x.made; ending = erased_ending E x.ending }
  free : NotStuck x.ending

module _ (E : Env) (w : WellFormed E) (whole : Complete E) where
  stopped-alike : (n : ℕ) (t : Term) (o : full.Outcome) (l : Outcome Lean) → Agrees E o l → Goes o →
      Alike E (stopped n t o) (erased.stopped n (erase E [] t) l)
  stopped-alike n t full.Outcome.value l a g = record { same = ap (erased.stopped n (erase E [] t)) a; free = tt }
  stopped-alike n t (full.Outcome.step s) l a g = record { same = ap (erased.stopped n (erase E [] t)) a.0; free = tt }
  stopped-alike n t (full.Outcome.trap k) l a g = record { same = ap (erased.stopped n (erase E [] t)) a; free = tt }
  stopped-alike n t full.Outcome.stuck l a g = absurd g

  continued-alike : (n : ℕ) (t : Term) (o : full.Outcome) (l : Outcome Lean) (f : Term → Evaluation)
      (g : Lean → erased.Evaluation) →
      Agrees E o l → Goes o →
      ((s : Term) → o ≡ full.Outcome.step s → Alike E (f s) (g (erase E [] s))) →
      Alike E (continued n t o f) (erased.continued n (erase E [] t) l g)
  continued-alike n t full.Outcome.value l f g a free next =
      record { same = ap (λ l. erased.continued n (erase E [] t) l g) a; free = tt }
  continued-alike n t (full.Outcome.step s) l f g a free next =
      subst (λ l. Alike E (f s) (erased.continued n (erase E [] t) l g)) (sym a.0) (next s refl)
  continued-alike n t (full.Outcome.trap k) l f g a free next =
      record { same = ap (λ l. erased.continued n (erase E [] t) l g) a; free = tt }
  continued-alike n t full.Outcome.stuck l f g a free next = absurd free

  goes : {t A : Term} {u : Use} → Has E Part.run [] t A u → Goes (full_step E t)
  goes {t} h = progress (sound_of w).bodies w.prims (bodied_of E whole) t h

  agrees : {t A : Term} {u : Use} → Has E Part.run [] t A u → Agrees E (full_step E t) (erased_step E t)
  agrees {t} h = term-agrees E (bodies-clean E w) t (has-clean h)

  pub next-typed : {t s A : Term} {u : Use} → full_step E t ≡ full.Outcome.step s → Has E Part.run [] t A u →
      Has E Part.run [] s A u
  next-typed {t} {s} {A} {u} e h = preservation (full-move E t s e) (sound_of w) Part.run [] A u h

  evaluated-alike : (bound n : ℕ) (t A : Term) (u : Use) → Has E Part.run [] t A u →
      Alike E (evaluated E bound n t) (erased.evaluation (lean_step (erased_bodies E)) bound n (erase E [] t))
  evaluated-alike zero n t A u h = stopped-alike n t (full_step E t) (erased_step E t) (agrees h) (goes h)
  evaluated-alike (suc bound) n t A u h =
      continued-alike n t (full_step E t) (erased_step E t) (evaluated E bound (suc n))
      (erased.evaluation (lean_step (erased_bodies E)) bound (suc n)) (agrees h) (goes h)
      (λ s e. evaluated-alike bound (suc n) s A u (next-typed e h))

  -- ---- the machine
  module _ (ds : List GlobalId) (listed : Lists E ds) where
    pub runs : ProgramRuns (bodies E ds)
    runs = programs-run (bodies E ds) (programs-are-lowered.sources E (bodies-whole E w) ds)

    ends-alike : (bound n : ℕ) (s : State) (x : Ending) → NotStuck x →
        erased.Answers (flat_program (bodies E ds)) (code E ds) bound s n
        (erased_ending E x) →
        Answers E ds bound s n x
    ends-alike bound n s (Ending.value t) free a = a
    ends-alike bound n s (Ending.trapped k) free a = a
    ends-alike bound n s Ending.going free a = a
    ends-alike bound n s Ending.stuck free a = absurd free

    pub answers-as : {t A : Term} {u : Use} (s : State) → Has E Part.run [] t A u → Represents E ds t s →
        AnswersAs E ds s t
    answers-as {t} {A} {u} s h r bound =
        let x : Evaluation = evaluated E bound 0 t in
        let same : Alike E x (erased.evaluation (lean_step (lean_bodies (bodies E ds))) bound 0 (erase E [] t)) =
        subst (λ B. Alike E x (erased.evaluation (lean_step B) bound 0 (erase E [] t)))
        (sym (programs-are-lowered.erased E ds listed))
        (evaluated-alike bound 0 t A u h) in
        ends-alike bound x.made s x.ending same.free
        (subst (λ y. erased.Answers (flat_program (bodies E ds)) (code E ds) bound s y.made y.ending) same.same
        (runs.bounded (erase E [] t) s r bound))

    pub call-represents : (q : Mult) (f a : Term) (g b : Value) → Usable Part.run q → IsValueOf E ds f g →
        IsValueOf E ds a b →
        Represents E ds (App q f a) (called g b)
    call-represents 𝟘 f a g b used h k = absurd used
    call-represents 𝟙 f a g b used h k = runs.call (erase E [] f) (erase E [] a) g b h k
    call-represents ω f a g b used h k = runs.call (erase E [] f) (erase E [] a) g b h k

    pub start-represents : (d : GlobalId) → Represents E ds (Def d) (start (first_block E ds d))
    start-represents d = runs.definition d
