-- The laws that the functions of this crate ensure.
use Rattle.std.specs.Prelude.{◌≡◌, ◌≢◌, ◌↔◌, ℕ, List, [], ◌++◌, Some}
use Rattle.qtt_base.specs.declared.place.GlobalId.{GlobalId}
use Rattle.qtt_usage.specs.declared.mult.Mult.{Mult}
use Rattle.qtt_usage.specs.Uses.{Use}
use Rattle.qtt_term.specs.Term.{Term, App, Def}
use Rattle.qtt_term.specs.Signature.{Definition, Env, UnitTy}
use Rattle.qtt_term.specs.FullRun.{Event, Verdict, tape_list, full}
use Rattle.qtt_term.specs.FullStep.{Cause}
use Rattle.qtt_term.specs.TapeDiscipline.{Disciplined, ClosedOnce}
use Rattle.qtt_term.specs.Judgement.{Part, Usable, Typed}
use Rattle.qtt_term.specs.Environment.{IsMain}
use Rattle.qtt_code.specs.Value.{Value}
use Rattle.qtt_code.specs.Instruction.{Program}
use Rattle.qtt_code.specs.Machine.{State, Halt, Advances, start, called}
use Rattle.qtt_run.specs.Code.{code, first_block, IsValueOf, Represents}
use Rattle.qtt_run.specs.Evaluation.{AnswersAs}
use Rattle.qtt_run.specs.CodeRun as run
use Rattle.qtt_run.specs.CodeRun.{Now, Config, Turn, turn, Seen, seen_of, Runs}
use Rattle.qtt_run.specs.Beside.{IsTyped}

-- the machine over the code of an environment answers within each bound what full evaluation gives: the same
-- value, trap or none, after as many ticks as steps
pub record TypedCodeAnswers (E : Env) (ds : List GlobalId) : Type 0 where
  -- from the start of a definition that is not 0
  pub definition : (d : GlobalId) (D : Definition) → E.definition d ≡ Some D → Usable Part.run D.mult →
      AnswersAs E ds (start (first_block E ds d)) (Def d)
  -- from the call of a function at an argument, where these are values of terms whose application is typed
  pub call : (q : Mult) (f a A : Term) (u : Use) (g b : Value) → Usable Part.run q →
      Typed E Part.run [] (App q f a) A u →
      IsValueOf E ds f g → IsValueOf E ds a b → AnswersAs E ds (called g b) (App q f a)
  -- and from each state that represents a typed term
  pub state : (t A : Term) (u : Use) (s : State) → Typed E Part.run [] t A u → Represents E ds t s → AnswersAs E ds s t

-- a run of code that begins typed stays typed, and goes on to an end
pub record CodeKeepsTypes (E : Env) (ds : List GlobalId) : Type 0 where
  pub starts : (main : GlobalId) → IsMain E main →
      (input : List ℕ) → IsTyped E ds UnitTy (run.start (first_block E ds main) input)
  -- the machine answers within each bound, and what it gives is typed
  pub answers : (R : Term) (c : Config) (s : State) → IsTyped E ds R c → c.now ≡ Now.computing s → (bound : ℕ) →
      (h : Halt) × Advances (code E ds) bound s h
  pub gives : (R : Term) (c : Config) (s : State) (v : Value) (bound : ℕ) → IsTyped E ds R c → c.now ≡ Now.computing s →
      Advances (code E ds) bound s (Halt.done v) → IsTyped E ds R (record c { now = Now.gave v })
  -- what it gave is an action, which is performed
  pub turns : (R : Term) (c d : Config) (v : Value) → IsTyped E ds R c → c.now ≡ Now.gave v →
      turn c v ≡ Turn.goes d → IsTyped E ds R d
  pub never_stuck : (R : Term) (c : Config) (v : Value) → IsTyped E ds R c → c.now ≡ Now.gave v →
      turn c v ≢ Turn.halts Verdict.stuck
  pub runs : (R : Term) (c : Config) → IsTyped E ds R c → (more n : ℕ) → (r : Seen) × Runs (code E ds) more n c r

-- the events so far are a front of those of the whole run
abbrev pub RunsAddEvents : Type 0
RunsAddEvents = (C : Program) (more n : ℕ) (c : Config) (r : Seen) → Runs C more n c r →
    (es : List Event) × (r.events ≡ c.events ++ es)

-- from a configuration a run has one end
abbrev pub RunsAreOne : Type 0
RunsAreOne = (C : Program) (more n : ℕ) (c : Config) (r s : Seen) → Runs C more n c r → Runs C more n c s → r ≡ s

-- within each bound and over each input the run of a main's code has one end: what is seen of its full run
abbrev pub CodeRunsAsFullRuns : Env → List GlobalId → GlobalId → Type 0
CodeRunsAsFullRuns E ds main =
    (bound : ℕ) (input : List ℕ) (r : Seen) → Runs (code E ds) bound 0 (run.start (first_block E ds main) input) r ↔
    (r ≡ seen_of (full bound E main input))

-- it is never stuck, its tapes are those that its events tell of, its events keep the discipline of tapes, and
-- after a run that ended or trapped each opened tape is closed exactly once
pub record ClosesTapes (r : Seen) : Type 0 where
  pub never_stuck : r.verdict ≢ Verdict.stuck
  pub tapes : tape_list [] r.events ≡ r.tapes
  pub always : Disciplined r.events
  pub ended : r.verdict ≡ Verdict.ended → ClosedOnce r.events
  pub trapped : (k : Cause) → r.verdict ≡ Verdict.trapped k → ClosedOnce r.events
