-- The handles of the tapes that a run opened.
use Rattle.std.specs.Prelude.{◌≡◌, ℕ, Bool, List, ◌∷◌, ◌++◌, length, map, Option, option_map, IfSome}
use Rattle.std.specs.List.{range_with_len}
use Rattle.qtt_prims.specs.Tapes.{Taped}
use Rattle.qtt_edge.specs.Tapes.{IsOpenAt, KeepsOthers}
use Rattle.qtt_term.specs.FullRun.{Event, closes_from, tape_list}
use Rattle.qtt_run.specs.declared.handles.Handle.{Handle}
use Rattle.qtt_run.specs.declared.handles.Handles.{Handles}

abbrev pub flag_of : Handle → Bool
flag_of handle = handle.is_open

abbrev pub is_open : Taped → Bool
is_open tape = tape.is_open

abbrev pub number_of : Handle → ℕ
number_of handle = handle.number

-- each has the number of its place
abbrev pub NumberedByPlace : List Handle → Type 0
NumberedByPlace handles = map number_of handles ≡ range_with_len 0 (length handles)

-- there is a handle for each of these tapes, open where the tape is; where the outside tells its tapes they are
-- these, and the number of each is its place
pub record Mirrors (handles : Handles) (told : Option (List Taped)) (tapes : List Taped) : Type 0 where
  pub same : IfSome told (λ all. all ≡ tapes)
  pub flags : map flag_of handles.all.items ≡ map is_open tapes
  pub numbers : IfSome told (λ _. NumberedByPlace handles.all.items)

-- the handles mirror some tapes, of which the one at this place is open
abbrev pub HasOpen : Handles → Option (List Taped) → ℕ → Type 0
HasOpen handles told place = (tapes : List Taped) × Mirrors handles told tapes × IsOpenAt place tapes

-- the first of the closes of all open tapes were done, and then one failed, so that its tape may be another
pub record ClosesFront (tapes : List Taped) (before after : Option (List Taped)) : Type 0 where
  pub closed : List Event
  pub place : ℕ
  pub later : List Event
  pub front : closes_from 0 tapes ≡ closed ++ Event.closed_tape place ∷ later
  pub others : KeepsOthers place (option_map (λ _. tape_list tapes closed) before) after
