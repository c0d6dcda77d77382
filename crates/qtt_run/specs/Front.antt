-- What a run that breaks off has done: a front of the events of the full run, and at most a part of the next one.
use Rattle.std.specs.Prelude.{◌≡◌, ℕ, List, ◌∷◌, [], ◌++◌, take, Option, option_map, ◌⊎◌}
use Rattle.qtt_prims.specs.Tapes.{Taped}
use Rattle.qtt_edge.specs.Sink.{Adds}
use Rattle.qtt_edge.specs.Tapes.{KeepsOthers}
use Rattle.qtt_term.specs.FullRun.{Event, text_of, tape_list}

-- what failed: a device of the outside, or there was no memory
pub data Failure : Type 0 where
  source : Failure
  sink : Failure
  tape : Failure
  memory : Failure

-- what the output and the tapes hold before a run and behind it, where they tell it
pub record Outside : Type 0 where
  pub output_before : Option (List ℕ)
  pub output : Option (List ℕ)
  pub tapes_before : Option (List Taped)
  pub tapes : Option (List Taped)

-- the tapes of a run that began with none, behind these events
abbrev pub tapes_behind : List Event → Outside → Option (List Taped)
tapes_behind events o = option_map (λ _. tape_list [] events) o.tapes_before

-- ---- these events were done
-- and nothing more
pub record DidNoMore (events : List Event) (o : Outside) : Type 0 where
  pub output : Adds o.output_before o.output (text_of events)
  pub tapes : o.tapes ≡ tapes_behind events o

-- and then some bytes of the next event, which is a line
pub record DidPartOfLine (events later : List Event) (o : Outside) : Type 0 where
  pub line : List ℕ
  pub rest : List Event
  pub next : later ≡ Event.line line ∷ rest
  pub bytes : ℕ
  pub output : Adds o.output_before o.output (text_of events ++ take bytes (line ++ 10 ∷ []))
  pub tapes : o.tapes ≡ tapes_behind events o

-- no tape but the one that this event uses is another; where it opens one, none is
abbrev pub SameButOf : Event → Option (List Taped) → Option (List Taped) → Type 0
SameButOf (Event.line s) old new = ⊥
SameButOf (Event.opened s) old new = new ≡ old
SameButOf (Event.wrote h s) old new = KeepsOthers h old new
SameButOf (Event.closed_tape h) old new = KeepsOthers h old new

-- and then the call of the next event failed, which uses a tape
pub record DidPartOfTape (events later : List Event) (o : Outside) : Type 0 where
  pub next : Event
  pub rest : List Event
  pub is : later ≡ next ∷ rest
  pub output : Adds o.output_before o.output (text_of events)
  pub tapes : SameButOf next (tapes_behind events o) o.tapes

-- by what failed
abbrev pub DidPart : Failure → List Event → List Event → Outside → Type 0
DidPart Failure.source events later o = DidNoMore events o
DidPart Failure.sink events later o = DidPartOfLine events later o
DidPart Failure.tape events later o = DidPartOfTape events later o
DidPart Failure.memory events later o =
    DidNoMore events o ⊎ (DidPartOfLine events later o ⊎ DidPartOfTape events later o)

-- of all events of a run a front was done, and then this failed at the next one
pub record DidFront (all : List Event) (why : Failure) (o : Outside) : Type 0 where
  pub events : List Event
  pub later : List Event
  pub front : all ≡ events ++ later
  pub part : DidPart why events later o
