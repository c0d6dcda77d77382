-- What the outcome of a call promises: why modules are accepted and refused, and what a run does.
use Rattle.std.specs.Prelude.{◌≡◌, ◌⊎◌, ◌≤◌, ℕ, Bool, true, false, List, [], Some, Ok, Err}
use Rattle.qtt_base.specs.declared.place.GlobalId.{GlobalId}
use Rattle.qtt_graph.specs.Graph.{Name}
use Rattle.qtt_term.specs.Term.{Term}
use Rattle.qtt_term.specs.Signature.{definition_at}
use Rattle.qtt_term.specs.FullRun.{Verdict, Run, full}
use Rattle.qtt_term.specs.TapeDiscipline.{Disciplined, ClosedOnce}
use Rattle.qtt_term.specs.Environment.{WellFormed, Complete, IsMain}
use Rattle.qtt_term.specs.Entries.{env}
use Rattle.qtt_diag.specs.Messages.{message}
use Rattle.qtt_words.specs.Asked.{Work, Asked}
use Rattle.qtt_load.specs.Reading.{Texts, read_in}
use Rattle.qtt_module.specs.Refused.{Refused}
use Rattle.qtt_module.specs.Text.{Accepted}
use Rattle.qtt_module.specs.TextCalls.{RefusesMain}
use Rattle.qtt_build.specs.Built.{Built}
use Rattle.qtt_build.specs.Build as builds
use Rattle.qtt_build.specs.Judged.{DeclaresBuild, RefusesBuild}
use Rattle.qtt_build.specs.Laws.{StoppedByBudget, FollowsClauses, BuildFailsSo}
use Rattle.qtt_outcome.specs.Stop.{Stop, no_holes, module_named, main_of, code_of}
use Rattle.qtt_outcome.specs.Outcome.{Outcome, line, absent_line, texts_for, root_of, worked, outcome_of, run_outcome, counts}

-- what a request comes to
abbrev pub came : Texts → List ℕ → Asked → Outcome
came texts input r = outcome_of (worked texts input r)

-- ---- accepted
-- by the rules, and without a budget, the modules of the request declare this
abbrev pub Declares : Texts → Asked → Built → Type 0
Declares texts r B = DeclaresBuild (read_in (texts_for texts r.work)) (root_of r.work) B

-- the same and nothing else, in a well-formed environment; and each body is that of clauses of one of the modules, as
-- which its definition goes on
pub record HasDerivations (texts : Texts) (r : Asked) (B : Built) : Type 0 where
  pub declares : Declares texts r B
  pub formed : WellFormed (env B.globals)
  pub alone : (C : Built) → Declares texts r C → C ≡ B
  pub clauses : (d : GlobalId) (body : Term) → (definition_at (env B.globals) d).body ≡ Some body →
      FollowsClauses declares.modules B d body

-- a status with which the call has gone on to its command
abbrev pub IsGoing : ℕ → Type 0
IsGoing status = (status ≡ 0) ⊎ (status ≡ 2) ⊎ (status ≡ 3)

-- what a request comes to goes on, is refused, or lacks a module
abbrev pub OneOfThree : Type 0
OneOfThree = (texts : Texts) (input : List ℕ) (r : Asked) → IsGoing (came texts input r).status ⊎
    ((came texts input r).status ≡ 1) ⊎ ((came texts input r).status ≡ 66)

-- what is accepted has a derivation
abbrev pub AcceptedIsDerived : Type 0
AcceptedIsDerived = (texts : Texts) (input : List ℕ) (r : Asked) → IsGoing (came texts input r).status →
    (B : Built) × HasDerivations texts r B

-- ---- refused
-- what is listed as code or run has no hole
abbrev pub wants_no_hole : Work → Bool
wants_no_hole (Work.check a) = false
wants_no_hole (Work.core a) = false
wants_no_hole (Work.code a) = true
wants_no_hole (Work.run a) = true
wants_no_hole (Work.gen n) = true

-- it has a right main
abbrev pub wants_main : Work → Bool
wants_main (Work.check a) = false
wants_main (Work.core a) = false
wants_main (Work.code a) = true
wants_main (Work.run a) = true
wants_main (Work.gen n) = true

-- why a request is refused, a constructor a cause
pub data Reason (texts : Texts) (r : Asked) : Refused → Type 0 where
  -- a text has a fault, there are too many modules or a ring of them; or a name, a hole to be filled in, a premise or a
  -- question of the first module that is refused; a premise is false in the relation; and but for such a question the
  -- modules declare nothing
  no_build : {x : Refused} →
      (refused : RefusesBuild (read_in (texts_for texts r.work)) (root_of r.work) r.budget
      (builds.Stop.refused x)) → BuildFailsSo refused →
      ((StoppedByBudget (builds.Stop.refused x) → ⊥) → (B : Built) → Declares texts r B → ⊥) →
      Reason texts r x
  -- all is accepted, and there is a hole
  hole : {B : Built} {x : Refused} → wants_no_hole r.work ≡ true → HasDerivations texts r B →
      no_holes B ≡ Err (Stop.refused x) → Reason texts r x
  -- all is accepted, and main is none, or its type is not that of a main, or is not compared within the budget
  wrong_main : {B : Built} {A : Accepted} {x : Refused} → wants_main r.work ≡ true → HasDerivations texts r B →
      module_named B (root_of r.work) ≡ Some A → RefusesMain r.budget B.globals A x → Reason texts r x
  -- all is accepted, and there are too many blocks or instructions
  too_large : {B : Built} {x : Refused} → wants_main r.work ≡ true → HasDerivations texts r B →
      code_of (root_of r.work) B ≡ Err (Stop.refused x) → Reason texts r x

-- what is refused is so for a reason, which is told, and puts nothing out
pub record IsRefused (texts : Texts) (r : Asked) (o : Outcome) : Type 0 where
  pub refusal : Refused
  pub reason : Reason texts r refusal
  pub told : o.err ≡ line (message refusal.kept)
  pub silent : o.out ≡ []

abbrev pub RefusedForReason : Type 0
RefusedForReason = (texts : Texts) (input : List ℕ) (r : Asked) → (came texts input r).status ≡ 1 →
    IsRefused texts r (came texts input r)

-- what is not there is told, and puts nothing out; the modules declare nothing
pub record IsAbsent (texts : Texts) (r : Asked) (o : Outcome) : Type 0 where
  pub name : Name
  pub lacking : RefusesBuild (read_in (texts_for texts r.work)) (root_of r.work) r.budget (builds.Stop.absent name)
  pub none : (B : Built) → Declares texts r B → ⊥
  pub told : o.err ≡ line (absent_line name)
  pub silent : o.out ≡ []

abbrev pub AbsentIsTold : Type 0
AbsentIsTold = (texts : Texts) (input : List ℕ) (r : Asked) → (came texts input r).status ≡ 66 →
    IsAbsent texts r (came texts input r)

-- a request about generated modules lacks none
abbrev pub GeneratedLackNone : Type 0
GeneratedLackNone = (texts : Texts) (input : List ℕ) (r : Asked) (n : ℕ) → r.work ≡ Work.gen n → 1 ≤ n → n ≤ 200 →
    (came texts input r).status ≡ 66 → ⊥

-- ---- runs
-- the main is run
abbrev pub runs : Work → Bool
runs (Work.check a) = false
runs (Work.core a) = false
runs (Work.code a) = false
runs (Work.run a) = true
runs (Work.gen n) = true

-- what is put behind the lines of a run: nothing, or what of generated modules is counted
abbrev pub behind_lines : Work → Built → Run → List ℕ
behind_lines (Work.check a) B R = []
behind_lines (Work.core a) B R = []
behind_lines (Work.code a) B R = []
behind_lines (Work.run a) B R = []
behind_lines (Work.gen n) B R = counts B R R.verdict

abbrev pub IsOver : Verdict → Type 0
IsOver Verdict.ended = Unit {0}
IsOver (Verdict.trapped k) = Unit {0}
IsOver Verdict.running = ⊥
IsOver Verdict.stuck = ⊥

-- the outcome is that of the full run of the main of an accepted build without a hole: its verdict, its lines, its
-- tapes, each of which is used only while it is open, and closed exactly once where the run ends or traps
pub record IsRun (texts : Texts) (input : List ℕ) (r : Asked) (o : Outcome) : Type 0 where
  pub built : Built
  pub derived : HasDerivations texts r built
  pub complete : Complete (env built.globals)
  pub main : GlobalId
  pub is_main : IsMain (env built.globals) main
  pub shows : o ≡ run_outcome (full r.steps (env built.globals) main input)
      (behind_lines r.work built (full r.steps (env built.globals) main input))
  pub disciplined : Disciplined (full r.steps (env built.globals) main input).last.events
  pub closed : IsOver (full r.steps (env built.globals) main input).verdict →
      ClosedOnce (full r.steps (env built.globals) main input).last.events

-- what is run is the full evaluation of main
abbrev pub RunsAreEvaluations : Type 0
RunsAreEvaluations = (texts : Texts) (input : List ℕ) (r : Asked) → runs r.work ≡ true →
    IsGoing (came texts input r).status → IsRun texts input r (came texts input r)

-- ---- what may be run
-- the environment and the main that a run asks for
pub record MayRun (B : Built) (main : GlobalId) : Type 0 where
  pub formed : WellFormed (env B.globals)
  pub complete : Complete (env B.globals)
  pub is_main : IsMain (env B.globals) main

-- the main of a build without a hole may be run
abbrev pub MainsMayRun : Type 0
MainsMayRun = (texts : Texts) (root : Name) (n : ℕ) (B : Built) (u : Unit {0}) (main : GlobalId) →
    builds.build (read_in texts) root n ≡ Ok B → no_holes B ≡ Ok u → main_of n B root ≡ Ok main → MayRun B main

-- ---- jobs
-- the number of jobs changes nothing
abbrev pub JobsChangeNothing : Type 0
JobsChangeNothing = (texts : Texts) (input : List ℕ) (r : Asked) (j : ℕ) →
    came texts input (record r { jobs = j }) ≡ came texts input r
