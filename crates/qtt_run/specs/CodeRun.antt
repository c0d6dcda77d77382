-- Runs of code: what the code of a main does to the lines of its input, the lines of its output and the tapes.
-- The machine computes an action; when it gives one, the action is performed, and the machine computes the next.
use Rattle.std.specs.Prelude.{◌≡◌, ℕ, suc, ◌+◌, List, [], ◌∷◌, ◌++◌, length, Option, Some, None, cond}
use Rattle.qtt_prims.specs.Lines.{line_of, after_line, is_line}
use Rattle.qtt_prims.specs.Tapes.{Taped, new_tape, with_line, shut}
use Rattle.qtt_prims.specs.declared.lit.Lit.TheVariants as literal
use Rattle.qtt_term.specs.Term.{Io, Action}
use Rattle.qtt_term.specs.FullStep.{Cause}
use Rattle.qtt_term.specs.FullRun.{Event, Verdict, at_open, closes_from, all_shut, Run}
use Rattle.qtt_code.specs.Value.{Value, Values, ◌▹◌}
use Rattle.qtt_code.specs.Instruction.{Program}
use Rattle.qtt_code.specs.Machine as machine
use Rattle.qtt_code.specs.Machine.{State, Halt, Advances, called}

-- the machine computes, or gave this value
pub data Now : Type 0 where
  computing : State → Now
  gave : Value → Now

-- what is now, the continuations that wait (the newest first), the rest of the input, the events so far, and the
-- tapes by their numbers
pub record Config : Type 0 where
  pub now : Now
  pub waiting : List Value
  pub input : List ℕ
  pub events : List Event
  pub tapes : List Taped

-- one action, or the end of the run
pub data Turn : Type 0 where
  goes : Config → Turn
  halts : Verdict → Turn

-- ---- what an action gives
abbrev pub pure_unit : Value
pure_unit = Value.action (Action.pure Io.io) (Value.con 0 Values.none ▹ Values.none)

abbrev pub pure_handle : ℕ → Value
pure_handle h = Value.action (Action.pure Io.io1) (Value.tape h ▹ Values.none)

abbrev pub pure_eof : Value
pure_eof = Value.action (Action.pure Io.io) (Value.con 0 Values.none ▹ Values.none)

abbrev pub pure_got : List ℕ → Value
pure_got s = Value.action (Action.pure Io.io) (Value.con 1 (Value.literal (literal.Text s) ▹ Values.none) ▹ Values.none)

-- ---- the table of actions
-- a result goes to the newest continuation; the run ends where none waits
abbrev pub resume : Value → Config → List Value → Turn
resume v c [] = Turn.halts Verdict.ended
resume v c (k ∷ ks) = Turn.goes (record c { now = Now.computing (called k v); waiting = ks })

abbrev pub read : Config → List ℕ → Turn
read c [] = Turn.goes (record c { now = Now.gave pure_eof })
read c (b ∷ bs) =
    cond (is_line (line_of (b ∷ bs)))
    (Turn.goes (record c { now = Now.gave (pure_got (line_of (b ∷ bs))); input = after_line (b ∷ bs) }))
    (Turn.halts (Verdict.trapped Cause.bad_input_line))

-- a write or a close, which gives v and is event e
abbrev pub use_tape : Config → Value → Event → Option (List Taped) → Turn
use_tape c v e (Some tapes) = Turn.goes (record c { now = Now.gave v; events = c.events ++ e ∷ []; tapes = tapes })
use_tape c v e None = Turn.halts Verdict.stuck

-- what one contraction does to an action that was given; a value that no row takes is stuck
abbrev pub turn : Config → Value → Turn
turn c (Value.action (Action.bind m n) (t ▹ k ▹ Values.none)) =
    Turn.goes (record c { now = Now.gave t; waiting = k ∷ c.waiting })
turn c (Value.action (Action.pure m) (v ▹ Values.none)) = resume v c c.waiting
turn c (Value.action Action.put_line (Value.literal (literal.Text s) ▹ Values.none)) =
    Turn.goes (record c { now = Now.gave pure_unit; events = c.events ++ Event.line s ∷ [] })
turn c (Value.action Action.get_line Values.none) = read c c.input
turn c (Value.action Action.opens (Value.literal (literal.Text s) ▹ Values.none)) =
    Turn.goes (record c {
      now = Now.gave (pure_handle (length c.tapes));
      events = c.events ++ Event.opened s ∷ [];
      tapes = c.tapes ++ new_tape s ∷ [];
    })
turn c (Value.action Action.writes (Value.tape h ▹ Value.literal (literal.Text s) ▹ Values.none)) =
    use_tape c (pure_handle h) (Event.wrote h s) (at_open h (with_line s) c.tapes)
turn c (Value.action Action.closes (Value.tape h ▹ Values.none)) =
    use_tape c pure_unit (Event.closed_tape h) (at_open h shut c.tapes)
turn c _ = Turn.halts Verdict.stuck

-- ---- runs
-- what is seen of a run: its verdict, the number of its contractions, the rest of the input, the events, and the
-- tapes
pub record Seen : Type 0 where
  pub verdict : Verdict
  pub count : ℕ
  pub input : List ℕ
  pub events : List Event
  pub tapes : List Taped

-- of a full run
abbrev pub seen_of : Run → Seen
seen_of r = record {
  verdict = r.verdict;
  count = r.count;
  input = r.last.input;
  events = r.last.events;
  tapes = r.last.tapes;
}

-- of a run of code that stops here after n contractions. A trap closes the open tapes
abbrev pub seen : Verdict → ℕ → Config → Seen
seen (Verdict.trapped k) n c =
    record {
      verdict = Verdict.trapped k;
      count = n;
      input = c.input;
      events = c.events ++ closes_from 0 c.tapes;
      tapes = all_shut c.tapes;
    }
seen v n c = record { verdict = v; count = n; input = c.input; events = c.events; tapes = c.tapes }

-- a run that may make so many contractions more after n of them: a contraction is a tick or an action
pub data Runs (C : Program) : ℕ → ℕ → Config → Seen → Type 0 where
  -- the machine stops at the bound
  spends : {more n : ℕ} {c : Config} {s : State} → c.now ≡ Now.computing s → (a : Advances C more s Halt.spent) →
      Runs C more n c (seen Verdict.running (n + a.made) c)
  -- or it traps
  traps : {more n : ℕ} {c : Config} {s : State} {k : Cause} → c.now ≡ Now.computing s →
      (a : Advances C more s (Halt.trapped k)) →
      Runs C more n c (seen (Verdict.trapped k) (n + a.made) c)
  -- or it gives a value, and goes on within what is left
  gives : {more left n : ℕ} {c : Config} {s : State} {v : Value} {r : Seen} → c.now ≡ Now.computing s →
      (a : Advances C more s (Halt.done v)) →
      a.made + left ≡ more → Runs C left (n + a.made) (record c { now = Now.gave v }) r → Runs C more n c r
  -- the action that was given ends the run
  halts : {more n : ℕ} {c : Config} {v : Value} {w : Verdict} → c.now ≡ Now.gave v → turn c v ≡ Turn.halts w →
      Runs C more n c (seen w n c)
  -- or the bound is reached before it
  stays : {n : ℕ} {c d : Config} {v : Value} → c.now ≡ Now.gave v → turn c v ≡ Turn.goes d →
      Runs C 0 n c (seen Verdict.running n c)
  -- or it is performed
  acts : {more n : ℕ} {c d : Config} {v : Value} {r : Seen} → c.now ≡ Now.gave v → turn c v ≡ Turn.goes d →
      Runs C more (suc n) d r →
      Runs C (suc more) n c r

-- where the run of a definition begins, whose first block this is
abbrev pub start : ℕ → List ℕ → Config
start block input = record {
  now = Now.computing (machine.start block);
  waiting = [];
  input = input;
  events = [];
  tapes = [];
}
