-- What holds where a status is answered.
use Rattle.std.specs.Prelude.{◌≡◌, ℕ, true, List, ◌⊎◌, Option, Some, None, String}
use Rattle.std.specs.declared.alloc.Global.{Global}
use Rattle.qtt_edge.specs.Sink.{Adds, AddsFront}
use Rattle.qtt_words.specs.Asked.{Asked, asked}
use Rattle.qtt_run.specs.Front.{Failure}
use Rattle.qtt_build.specs.Built.{Built}
use Rattle.qtt_outcome.specs.Outcome.{Outcome, line, outcome}
use Rattle.qtt_outcome.specs.Completeness.{IsReady, GoesOn, IsOverBudget}
use Rattle.qtt_outcome.specs.Headline.{came, Declares, HasDerivations, IsGoing, IsRefused, IsAbsent, runs, IsRun}
use Rattle.qtt_cli.specs.declared.device.Device.{Device}
use Rattle.qtt_cli.specs.Seen.{Seen, Over}
use Rattle.qtt_cli.specs.Parts.{DoesNothing, DoesAll, Part, Breaks}
use Rattle.qtt_cli.specs.Told.{device_line, memory_line}

pub record Call : Type 1 where
  pub words : List (String Global)
  pub seen : Seen
  -- err, before the call and behind it; and its faults rose in the call
  pub err_before : Option (List ℕ)
  pub err : Option (List ℕ)
  pub err_failed : Type 0

-- err gained this line, or a front of it where its faults rose
abbrev pub IsTold : Call → List ℕ → Type 0
IsTold c due = Adds c.err_before c.err due ⊎ (c.err_failed × AddsFront c.err_before c.err due)

-- what the words come to
abbrev pub outcome_over : (c : Call) → Over c.seen → Outcome
outcome_over c o = outcome c.words o.texts o.input

-- ---- the call came to its end
-- over the texts and the input that are told, or over some, the call came to exactly its outcome
pub record Ends (c : Call) (status : ℕ) : Type 0 where
  pub over : Over c.seen
  pub status_is : status ≡ (outcome_over c over).status
  pub done : DoesAll (outcome_over c over) c.seen.outside
  pub told : IsTold c (outcome_over c over).err
  -- a request that went on is accepted: its modules declare what is built by the rules, in a well-formed environment
  pub accepted : (r : Asked) → asked c.words ≡ Some r → IsGoing status → (B : Built) × HasDerivations over.texts r B
  -- what is refused has a reason in the rules, a budget or a limit; it is told, and nothing else is done
  pub refused : (r : Asked) → asked c.words ≡ Some r → status ≡ 1 → IsRefused over.texts r (outcome_over c over)
  pub absent : (r : Asked) → asked c.words ≡ Some r → status ≡ 66 → IsAbsent over.texts r (outcome_over c over)
  -- a run shows the full evaluation of main within the steps; tapes are used while they are open, and closed exactly
  -- once where it ends or traps
  pub run : (r : Asked) → asked c.words ≡ Some r → runs r.work ≡ true → IsGoing status →
      IsRun over.texts over.input r (outcome_over c over)
  -- what the modules declare by the rules, where it is ready, is gone on over, unless a question takes more than the
  -- budget
  pub complete : (r : Asked) (B : Built) → asked c.words ≡ Some r → Declares over.texts r B → IsReady r B →
      GoesOn over.texts over.input r B ⊎ IsOverBudget over.texts r (outcome_over c over)
  -- the number of jobs changes nothing
  pub jobs : (r : Asked) (j : ℕ) → asked c.words ≡ Some r →
      outcome_over c over ≡ came over.texts over.input (record r { jobs = j })

-- ---- a device failed
pub record Failed (c : Call) : Type 0 where
  pub device : Device
  pub failed : c.seen.failed device
  pub request : Asked
  pub asked_for : asked c.words ≡ Some request
  pub over : Over c.seen
  pub done : Breaks over.texts over.input request device c.seen.outside
  pub told : IsTold c (line (device_line device))

-- ---- memory ran out
-- what was done then
pub data Left (c : Call) : Type 0 where
  nothing : DoesNothing c.seen.outside → Left c
  part : {r : Asked} → asked c.words ≡ Some r → (o : Over c.seen) →
      Part o.texts o.input r Failure.memory c.seen.outside → Left c
  broke : {r : Asked} {d : Device} → asked c.words ≡ Some r → c.seen.failed d → (o : Over c.seen) →
      Breaks o.texts o.input r d c.seen.outside → Left c
  all : (o : Over c.seen) → DoesAll (outcome_over c o) c.seen.outside → Left c

-- the lines that may be due on err
pub data Due (c : Call) : List ℕ → Type 0 where
  out_of_memory : Due c memory_line
  of_outcome : (o : Over c.seen) → Due c (outcome_over c o).err
  of_device : {d : Device} → c.seen.failed d → Due c (line (device_line d))

pub record RunsOut (c : Call) : Type 0 where
  pub left : Left c
  pub due : List ℕ
  pub is_due : Due c due
  pub told : AddsFront c.err_before c.err due

-- ---- all statuses
abbrev pub IsEnd : ℕ → Type 0
IsEnd status = IsGoing status ⊎ (status ≡ 1) ⊎ (status ≡ 64) ⊎ (status ≡ 66)

pub record Answers (c : Call) (status : ℕ) : Type 0 where
  pub statuses : IsEnd status ⊎ (status ≡ 71) ⊎ (status ≡ 74)
  pub ends : IsEnd status → Ends c status
  pub usage : status ≡ 64 → asked c.words ≡ None
  pub usage_always : asked c.words ≡ None → (status ≡ 64) ⊎ (status ≡ 71)
  -- 66 only where the vault lacked a module in this call
  pub absent : status ≡ 66 → c.seen.missed
  pub failed : status ≡ 74 → Failed c
  pub memory : status ≡ 71 → RunsOut c
