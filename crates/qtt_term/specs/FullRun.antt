-- Full runs: what a main does to the lines of its input, the lines of its output and the tapes (open file
-- handles).
use Rattle.std.specs.Prelude.{ℕ, zero, suc, List, [], ◌∷◌, ◌++◌, length, Option, Some, None, cond}
use Rattle.qtt_base.specs.declared.place.GlobalId.{GlobalId}
use Rattle.qtt_prims.specs.Lines.{line_of, after_line, is_line}
use Rattle.qtt_prims.specs.Tapes.{Taped, new_tape, with_line, shut, changed}
use Rattle.qtt_term.specs.Term.{Io, Action, Term, ε, ◌▸◌, App, Def, TextLit, Act, Tape}
use Rattle.qtt_term.specs.Signature.{Env, UnitTy, MkUnit, LineTy, Eof, Got, HandleTy, mult_of}
use Rattle.qtt_term.specs.Contraction.{chain}
use Rattle.qtt_term.specs.FullStep.{Cause, Outcome, full_step}

pub data Event : Type 0 where
  line : List ℕ → Event
  opened : List ℕ → Event
  wrote : ℕ → List ℕ → Event
  closed_tape : ℕ → Event

-- a term, the continuations that wait (the newest first), the rest of the input, the events so far, and the tapes
-- by their numbers
pub record Config : Type 0 where
  pub term : Term
  pub waiting : List Term
  pub input : List ℕ
  pub events : List Event
  pub tapes : List Taped

pub data Verdict : Type 0 where
  ended : Verdict
  trapped : Cause → Verdict
  stuck : Verdict
  running : Verdict

-- one contraction, or the end of the run
pub data Turn : Type 0 where
  goes : Config → Turn
  halts : Verdict → Turn

-- ---- what an action gives
abbrev pub pure_unit : Term
pure_unit = Act (Action.pure Io.io) 1 (UnitTy ▸ MkUnit ▸ ε)

abbrev pub pure_handle : ℕ → Term
pure_handle h = Act (Action.pure Io.io1) 1 (HandleTy ▸ Tape h ▸ ε)

abbrev pub pure_line : Term → Term
pure_line l = Act (Action.pure Io.io) 1 (LineTy ▸ l ▸ ε)

-- ---- tapes
-- the tape of this number, changed, where it is open
abbrev pub at_open : ℕ → (Taped → Taped) → List Taped → Option (List Taped)
at_open h g [] = None
at_open zero g (t ∷ ts) = cond t.is_open (Some (g t ∷ ts)) None
at_open (suc h) g (t ∷ ts) = chain (at_open h g ts) (λ us. Some (t ∷ us))

-- ---- the table of actions
abbrev pub resume : Io → Term → Config → List Term → Turn
resume m v c [] = Turn.halts Verdict.ended
resume m v c (k ∷ ks) = Turn.goes (record c { term = App (mult_of m) k v; waiting = ks })

abbrev pub read : Config → List ℕ → Turn
read c [] = Turn.goes (record c { term = pure_line Eof })
read c (b ∷ bs) =
    cond (is_line (line_of (b ∷ bs)))
    (Turn.goes (record c {
      term = pure_line (Got (TextLit (line_of (b ∷ bs))));
      input = after_line (b ∷ bs);
    })) (Turn.halts (Verdict.trapped Cause.bad_input_line))

-- a write or a close, which gives t and is event e
abbrev pub use_tape : Config → Term → Event → Option (List Taped) → Turn
use_tape c t e (Some tapes) = Turn.goes (record c { term = t; events = c.events ++ e ∷ []; tapes = tapes })
use_tape c t e None = Turn.halts Verdict.stuck

-- what one contraction does to an action that is a value; a value that no row takes is stuck
abbrev pub perform : Config → Term → Turn
perform c (Act (Action.bind m n) k (A ▸ B ▸ t ▸ next ▸ ε)) =
    Turn.goes (record c { term = t; waiting = next ∷ c.waiting })
perform c (Act (Action.pure m) k (A ▸ v ▸ ε)) = resume m v c c.waiting
perform c (Act Action.put_line k (TextLit s ▸ ε)) =
    Turn.goes (record c { term = pure_unit; events = c.events ++ Event.line s ∷ [] })
perform c (Act Action.get_line k ε) = read c c.input
perform c (Act Action.opens k (TextLit s ▸ ε)) =
    Turn.goes (record c {
      term = pure_handle (length c.tapes);
      events = c.events ++ Event.opened s ∷ [];
      tapes = c.tapes ++ new_tape s ∷ [];
    })
perform c (Act Action.writes k (Tape h ▸ TextLit s ▸ ε)) =
    use_tape c (pure_handle h) (Event.wrote h s) (at_open h (with_line s) c.tapes)
perform c (Act Action.closes k (Tape h ▸ ε)) = use_tape c pure_unit (Event.closed_tape h) (at_open h shut c.tapes)
perform c _ = Turn.halts Verdict.stuck

abbrev pub take_turn : Config → Outcome → Turn
take_turn c (Outcome.step t) = Turn.goes (record c { term = t })
take_turn c (Outcome.trap k) = Turn.halts (Verdict.trapped k)
take_turn c Outcome.stuck = Turn.halts Verdict.stuck
take_turn c Outcome.value = perform c c.term

abbrev pub turn : Env → Config → Turn
turn E c = take_turn c (full_step E c.term)

-- ---- runs
-- a close for each open tape, ascending, the first of the tapes having number h
abbrev pub closes_from : ℕ → List Taped → List Event
closes_from h [] = []
closes_from h (t ∷ ts) = cond t.is_open (Event.closed_tape h ∷ closes_from (suc h) ts) (closes_from (suc h) ts)

abbrev pub all_shut : List Taped → List Taped
all_shut [] = []
all_shut (t ∷ ts) = shut t ∷ all_shut ts

-- a run that traps closes its open tapes, which are no contractions
abbrev pub at_end : Verdict → Config → Config
at_end (Verdict.trapped k) c = record c { events = c.events ++ closes_from 0 c.tapes; tapes = all_shut c.tapes }
at_end _ c = c

pub record Run : Type 0 where
  pub verdict : Verdict
  pub count : ℕ
  pub last : Config

-- what stands after n contractions where no more are made
abbrev pub stopped : ℕ → Config → Turn → Run
stopped n c (Turn.halts v) = record { verdict = v; count = n; last = at_end v c }
stopped n c (Turn.goes d) = record { verdict = Verdict.running; count = n; last = c }

-- and where one more may be made
abbrev pub going : ℕ → Config → Turn → (Config → Run) → Run
going n c (Turn.halts v) next = record { verdict = v; count = n; last = at_end v c }
going n c (Turn.goes d) next = next d

-- at most so many contractions after n of them
abbrev pub run_on : ℕ → Env → ℕ → Config → Run
run_on zero E n c = stopped n c (turn E c)
run_on (suc more) E n c = going n c (turn E c) (run_on more E (suc n))

abbrev pub start : GlobalId → List ℕ → Config
start main input = record { term = Def main; waiting = []; input = input; events = []; tapes = [] }

-- the run of a main over an input after at most n contractions
abbrev pub full : ℕ → Env → GlobalId → List ℕ → Run
full n E main input = run_on n E 0 (start main input)

-- ---- output
-- the bytes of the lines that were put, each with its byte 10
abbrev pub text_of : List Event → List ℕ
text_of [] = []
text_of (Event.line s ∷ es) = s ++ 10 ∷ text_of es
text_of (Event.opened s ∷ es) = text_of es
text_of (Event.wrote h s ∷ es) = text_of es
text_of (Event.closed_tape h ∷ es) = text_of es

-- each opened number with its name, its lines and whether it is open, after these tapes
abbrev pub tape_list : List Taped → List Event → List Taped
tape_list ts [] = ts
tape_list ts (Event.line s ∷ es) = tape_list ts es
tape_list ts (Event.opened s ∷ es) = tape_list (ts ++ new_tape s ∷ []) es
tape_list ts (Event.wrote h s ∷ es) = tape_list (changed h (with_line s) ts) es
tape_list ts (Event.closed_tape h ∷ es) = tape_list (changed h shut ts) es
