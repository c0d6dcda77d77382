-- A run under way: what it began from, what stands now, and that whatever it comes to from here it comes to from
-- the beginning.
use Rattle.std.specs.Prelude.{◌≡◌, ◌↔◌, ℕ, suc, ◌+◌, ◌≤◌, List, [], ◌++◌, length, reverse}
use Rattle.std.specs.Prelude.{Option, option_map, IfSome, Result, Ok, Err}
use Rattle.qtt_base.specs.declared.place.GlobalId.{GlobalId}
use Rattle.qtt_base.specs.declared.errors.MemoryError.{MemoryError}
use Rattle.qtt_prims.specs.Tapes.{Taped}
use Rattle.qtt_edge.specs.Sink.{Adds}
use Rattle.qtt_term.specs.Signature.{Env, UnitTy}
use Rattle.qtt_term.specs.Environment.{WellFormed, Complete}
use Rattle.qtt_term.specs.Term.{Io}
use Rattle.qtt_term.specs.FullStep.{Cause}
use Rattle.qtt_term.specs.FullRun.{Event, Verdict, text_of, tape_list, closes_from, all_shut}
use Rattle.qtt_code.specs.Value.{Value}
use Rattle.qtt_code.specs.Instruction.{Program}
use Rattle.qtt_code.specs.Forward.{AllJumpForward}
use Rattle.qtt_code.specs.Machine.{State, start as machine_start}
use Rattle.qtt_value.specs.View.{value, values}
use Rattle.qtt_machine.specs.declared.event.Halt.{Halt}
use Rattle.qtt_machine.specs.declared.event.Halt.TheVariants as halted
use Rattle.qtt_machine.specs.declared.machine.Machine.{Machine}
use Rattle.qtt_machine.specs.Machine as machine
use Rattle.qtt_machine.specs.Events.{cause}
use Rattle.qtt_run.specs.declared.handles.Handles.{Handles}
use Rattle.qtt_run.specs.declared.program.RunHow.{RunHow}
use Rattle.qtt_run.specs.declared.program.RunHow.TheVariants as how
use Rattle.qtt_run.specs.declared.running.Running.{Running}
use Rattle.qtt_run.specs.declared.running.Turn as code_turn
use Rattle.qtt_run.specs.declared.running.Turn.TheVariants as turn
use Rattle.qtt_run.specs.declared.stop.Stop.{Stop}
use Rattle.qtt_run.specs.declared.stop.Stop.TheVariants as stop
use Rattle.qtt_run.specs.declared.program.RunEnd.{RunEnd}
use Rattle.qtt_run.specs.Code.{Lists, code}
use Rattle.qtt_run.specs.CodeRun.{Now, Config, Seen, Runs, start}
use Rattle.qtt_run.specs.Beside.{IsTyped}
use Rattle.qtt_run.specs.Handles.{Mirrors}
use Rattle.qtt_run.specs.Deed.{gives}
use Rattle.qtt_run.specs.Lines.{LeftOver}
use Rattle.qtt_run.specs.Front.{Failure, Outside, DidFront}
use Rattle.qtt_run.specs.Program.{Outcome, outcome}

-- what a run begins from: a block of a program whose jumps go to later places, a bound, and what the outside
-- tells then
pub record Origin : Type 0 where
  pub program : Program
  pub jumps : AllJumpForward program
  pub block : ℕ
  pub bound : ℕ
  pub small : bound ≤ 4000000000
  pub input : Option (List ℕ)
  pub output : Option (List ℕ)
  pub tapes : Option (List Taped)

-- this is seen of the whole run, over an input that the source may give
pub record Began (o : Origin) (r : Seen) : Type 0 where
  pub input : List ℕ
  pub told : IfSome o.input (λ bytes. input ≡ bytes)
  pub run : Runs o.program o.bound 0 (start o.block input) r

-- the program is the code of a well-formed and complete environment, in which the configuration is typed
pub record IsTypedIn (P : Program) (c : Config) : Type 0 where
  pub env : Env
  pub ids : List GlobalId
  pub well_formed : WellFormed env
  pub complete : Complete env
  pub listed : Lists env ids
  pub program : P ≡ code env ids
  pub typed : IsTyped env ids UnitTy c

-- a run under way, which waits so, may make so many contractions more, may have these inputs left, and has these
-- handles; this is what the outside tells of its output and its tapes
pub record Underway (o : Origin) (now : Now) (waiting : List Value) (left : ℕ) (Rests : List ℕ → Type 0)
    (handles : Handles)
    (output : Option (List ℕ)) (tapes : Option (List Taped)) : Type 0 where
  pub events : List Event
  pub opened : List Taped
  pub made : ℕ
  pub typed : (input : List ℕ) →
      IsTypedIn o.program (record { now = now; waiting = waiting; input = input; events = events; tapes = opened })
  pub way : (input : List ℕ) → Rests input → (r : Seen) →
      Runs o.program left made (record
      { now = now; waiting = waiting; input = input; events = events; tapes = opened }) r → Began o r
  pub some : (input : List ℕ) × Rests input
  pub counted : made + left ≡ o.bound
  pub few : length opened ≤ made
  pub puts : Adds o.output output (text_of events)
  pub tells : tapes ≡ option_map (λ _. opened) o.tapes
  pub listed : tape_list [] events ≡ opened
  pub mirrors : Mirrors handles tapes opened

abbrev pub waiting_of : Running → List Value
waiting_of m = reverse (values m.waiting.items)

-- the machine computes from a state, or has given a value
abbrev pub StandsAt : Program → Now → Machine → Type 0
StandsAt P (Now.computing s) m = (machine.program m ≡ P) × (machine.state m ≡ s) × machine.IsReady m
StandsAt P (Now.gave v) m = machine.program m ≡ P

pub record IsUnderway (o : Origin) (now : Now) (m : Running) (input output : Option (List ℕ))
    (tapes : Option (List Taped)) : Type 0 where
  pub run : Underway o now (waiting_of m) m.left (LeftOver m.lines input) m.handles output tapes
  pub stands : StandsAt o.program now m.machine

abbrev pub Computes : Origin → Running → Option (List ℕ) → Option (List ℕ) → Option (List Taped) → Type 0
Computes o m input output tapes = (s : State) × IsUnderway o (Now.computing s) m input output tapes

-- all of the run was done, which may make so many contractions more
pub record Finished (o : Origin) (h : RunHow) (left : ℕ) (output : Option (List ℕ))
    (tapes : Option (List Taped)) : Type 0 where
  pub seen : Seen
  pub began : Began o seen
  pub verdict : outcome h ≡ Outcome.came seen.verdict
  pub counted : seen.count + left ≡ o.bound
  pub puts : Adds o.output output (text_of seen.events)
  pub tells : tapes ≡ option_map (λ _. seen.tapes) o.tapes

-- what the outside tells now, beside what it told when the run began
abbrev pub outside : Origin → Option (List ℕ) → Option (List Taped) → Outside
outside o output tapes = record { output_before = o.output; output = output; tapes_before = o.tapes; tapes = tapes }

-- a front of the run was done, and then this failed
pub record Broken (o : Origin) (why : Failure) (left : ℕ) (output : Option (List ℕ))
    (tapes : Option (List Taped)) : Type 0 where
  pub seen : Seen
  pub began : Began o seen
  pub did : DidFront seen.events why (outside o output tapes)
  pub made : ℕ
  pub counted : made + left ≡ o.bound
  pub reached : made ≤ seen.count

-- the run traps, and its open tapes are still to be closed
pub record Trapping (o : Origin) (k : Cause) (left : ℕ) (handles : Handles) (output : Option (List ℕ))
    (tapes : Option (List Taped)) : Type 0 where
  pub events : List Event
  pub opened : List Taped
  pub input : List ℕ
  pub count : ℕ
  pub began : Began o (record {
    verdict = Verdict.trapped k;
    count = count;
    input = input;
    events = events ++ closes_from 0 opened;
    tapes = all_shut opened;
  })
  pub counted : count + left ≡ o.bound
  pub few : length opened ≤ count
  pub puts : Adds o.output output (text_of events)
  pub tells : tapes ≡ option_map (λ _. opened) o.tapes
  pub listed : tape_list [] events ≡ opened
  pub mirrors : Mirrors handles tapes opened

-- ---- what stands behind a step of the run
abbrev pub AfterHalt : Origin → Running → Option (List ℕ) → Option (List ℕ) → Option (List Taped) →
    Result Halt MemoryError → Type 0
AfterHalt o m input output tapes (Ok (halted.Done v)) = IsUnderway o (Now.gave (value v)) m input output tapes
AfterHalt o m input output tapes (Ok (halted.Trap k)) = Trapping o (cause k) m.left m.handles output tapes
AfterHalt o m input output tapes (Ok halted.Spent) = Finished o how.Bound m.left output tapes
AfterHalt o m input output tapes (Err e) = Broken o Failure.memory m.left output tapes

abbrev pub AfterTurn : Origin → Running → Option (List ℕ) → Option (List ℕ) → Option (List Taped) →
    code_turn.Turn → Type 0
AfterTurn o m input output tapes (turn.Gives v) = IsUnderway o (Now.gave (value v)) m input output tapes
AfterTurn o m input output tapes turn.Computes = Computes o m input output tapes
AfterTurn o m input output tapes (turn.Halts h) = Finished o h m.left output tapes

-- by what an error says that failed
abbrev pub Turned : {E : Type 0} → (E → Failure) → Origin → Running → Option (List ℕ) → Option (List ℕ) →
    Option (List Taped) → Result code_turn.Turn E → Type 0
Turned why o m input output tapes (Ok t) = AfterTurn o m input output tapes t
Turned why o m input output tapes (Err e) = Broken o (why e) m.left output tapes

abbrev pub Came : {E : Type 0} → (E → Failure) → Origin → ℕ → Option (List ℕ) → Option (List Taped) → Result RunHow E →
    Type 0
Came why o left output tapes (Ok h) = Finished o h left output tapes
Came why o left output tapes (Err e) = Broken o (why e) left output tapes

-- one contraction is made, and is still to be counted: then the run stands so
pub record Ahead (o : Origin) (now : Now) (m : Running) (input output : Option (List ℕ))
    (tapes : Option (List Taped)) : Type 0 where
  pub next : (left : ℕ) → m.left ≡ suc left →
      Underway o now (waiting_of m) left (LeftOver m.lines input) m.handles output tapes
  pub program : machine.program m.machine ≡ o.program

-- a line was read, which one more contraction gives
pub record GivesNext (o : Origin) (line : Value) (m : Running) (input output : Option (List ℕ))
    (tapes : Option (List Taped)) : Type 0 where
  pub ahead : Ahead o (Now.gave (gives Io.io line)) m input output tapes
  pub bound : m.left ≡ 0 → Finished o how.Bound m.left output tapes
  pub broken : Broken o Failure.memory m.left output tapes

-- ---- where a run starts
abbrev pub StartsAt : Program → ℕ → Running → Type 0
StartsAt P block m = StandsAt P (Now.computing (machine_start block)) m.machine × (waiting_of m ≡ [])

-- the input that may be left is all that the source may give
abbrev pub RestsAtStart : Running → Option (List ℕ) → List ℕ → Type 0
RestsAtStart m content input = LeftOver m.lines content input ↔ IfSome content (λ all. input ≡ all)

-- how many turns more there are at most
abbrev pub fuel : code_turn.Turn → ℕ → ℕ
fuel (turn.Gives v) left = suc left
fuel turn.Computes left = suc left
fuel (turn.Halts h) left = 0

-- ---- the answer at the end
-- what a run came to, after so many contractions, is answered so
abbrev pub IsAnswered : Result RunHow Stop → ℕ → Result RunEnd MemoryError → Type 0
IsAnswered (Ok h) used answer = answer ≡ Ok (record { how = h; used = used })
IsAnswered (Err stop.Source) used answer = answer ≡ Ok (record { how = how.SourceFault; used = used })
IsAnswered (Err stop.Sink) used answer = answer ≡ Ok (record { how = how.SinkFault; used = used })
IsAnswered (Err stop.Tape) used answer = answer ≡ Ok (record { how = how.TapeFault; used = used })
IsAnswered (Err stop.Memory) used answer = (e : MemoryError) × (answer ≡ Err e)
