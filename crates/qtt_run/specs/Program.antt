-- What running a program answers, and what it does to its output and its tapes.
use Rattle.std.specs.Prelude.{◌≡◌, ℕ, ◌≤◌, List, Option, Some, option_map, Result, Ok, Err, IfSome}
use Rattle.qtt_base.specs.declared.place.GlobalId.{GlobalId}
use Rattle.qtt_base.specs.declared.errors.MemoryError.{MemoryError}
use Rattle.qtt_edge.specs.Sink.{Adds}
use Rattle.qtt_term.specs.Signature.{Env}
use Rattle.qtt_term.specs.Environment.{WellFormed, Complete, IsMain}
use Rattle.qtt_term.specs.TapeDiscipline.{ClosedOnce}
use Rattle.qtt_term.specs.FullRun.{Verdict, Run, full, text_of}
use Rattle.qtt_lower.specs.declared.program.Compiled.{Compiled}
use Rattle.qtt_lower.specs.Programs.{Base, base_id}
use Rattle.qtt_lower.specs.Whole.{compiled_program, compiled_bases}
use Rattle.qtt_term.specs.Keyed.{with_id}
use Rattle.qtt_machine.specs.Events.{cause}
use Rattle.qtt_run.specs.declared.program.RunHow.{RunHow}
use Rattle.qtt_run.specs.declared.program.RunHow.TheVariants as how
use Rattle.qtt_run.specs.declared.program.RunEnd.{RunEnd}
use Rattle.qtt_run.specs.Code.{Lists, code, first_block}
use Rattle.qtt_run.specs.Front.{Failure, Outside, DidFront}

abbrev pub block_of : Base → ℕ
block_of b = b.block

-- the code of an environment that is well formed and complete, in which this is a main
pub record IsCodeOfMain (c : Compiled) (main : GlobalId) (E : Env) : Type 0 where
  pub well_formed : WellFormed E
  pub complete : Complete E
  pub is_main : IsMain E main
  pub ids : List GlobalId
  pub listed : Lists E ids
  pub program : compiled_program c ≡ code E ids
  pub begins : option_map block_of (with_id base_id main (compiled_bases c)) ≡ Some (first_block E ids main)

-- what an answer tells: the verdict of the run, or what failed
pub data Outcome : Type 0 where
  came : Verdict → Outcome
  broke : Failure → Outcome

abbrev pub outcome : RunHow → Outcome
outcome how.Ended = Outcome.came Verdict.ended
outcome (how.Trapped k) = Outcome.came (Verdict.trapped (cause k))
outcome how.Bound = Outcome.came Verdict.running
outcome how.SourceFault = Outcome.broke Failure.source
outcome how.SinkFault = Outcome.broke Failure.sink
outcome how.TapeFault = Outcome.broke Failure.tape

-- the run is over: it goes on behind no bound
abbrev pub IsOver : Verdict → Type 0
IsOver Verdict.ended = Unit {0}
IsOver (Verdict.trapped k) = Unit {0}
IsOver Verdict.stuck = ⊥
IsOver Verdict.running = ⊥

-- all was done that a full run does: this is its verdict and the number of its contractions, the output gained
-- the lines that it puts, and the tapes are those that it opened, each closed exactly once if the run ended or
-- trapped
pub record DidAll (r : Run) (v : Verdict) (used : ℕ) (o : Outside) : Type 0 where
  pub verdict : r.verdict ≡ v
  pub count : r.count ≡ used
  pub output : Adds o.output_before o.output (text_of r.last.events)
  pub tapes : o.tapes ≡ option_map (λ _. r.last.tapes) o.tapes_before
  pub closed : IsOver v → ClosedOnce r.last.events

-- where something failed, a front of the events of the full run was done, in no more contractions than it makes
abbrev pub Did : Run → Outcome → ℕ → Outside → Type 0
Did r (Outcome.came v) used o = DidAll r v used o
Did r (Outcome.broke why) used o = DidFront r.last.events why o × (used ≤ r.count)

-- what an answer tells of the outside, where this is the full run
abbrev pub Answers : Run → Outside → Result RunEnd MemoryError → Type 0
Answers r o (Ok end) = Did r (outcome end.how) end.used o
Answers r o (Err e) = DidFront r.last.events Failure.memory o

-- the full run over what the source gives; over a source that does not tell what it gives, over some input
pub record RunsAsFull (bound : ℕ) (E : Env) (main : GlobalId) (content : Option (List ℕ)) (o : Outside)
    (result : Result RunEnd MemoryError) : Type 0 where
  pub input : List ℕ
  pub told : IfSome content (λ bytes. input ≡ bytes)
  pub answers : Answers (full bound E main input) o result

abbrev pub Ends : RunHow → Result RunEnd MemoryError → Type 0
Ends h (Ok end) = end.how ≡ h
Ends h (Err e) = ⊥
