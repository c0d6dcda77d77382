-- Worked calls, as they are seen from outside.
use Rattle.std.specs.Prelude.{◌≡◌, ℕ, true, List, [], ◌∷◌, ◌++◌, Some, None, Ok, Err, codes}
use Rattle.qtt_term.specs.FullRun.{Event}
use Rattle.qtt_words.specs.Asked.{Work, Asked}
use Rattle.qtt_run.specs.Front.{Failure, Outside, DidFront}
use Rattle.qtt_load.specs.Reading.{Texts}
use Rattle.qtt_outcome.specs.Outcome.{line, puts, usage_line, worked}
use Rattle.qtt_machine.specs.declared.event.TrapKind.TheVariants as trap
use Rattle.qtt_cli.specs.declared.device.Device.TheVariants as device
use Rattle.qtt_cli.specs.declared.stop.Stop.TheVariants as stop
use Rattle.qtt_cli.specs.declared.verdict.Verdict.TheVariants as verdict
use Rattle.qtt_cli.specs.Seen.{one_of}
use Rattle.qtt_cli.specs.Parts.{prints, asks_vault, Breaks}
use Rattle.qtt_cli.specs.Told.{status_of, line_of}
use Rattle.qtt_cli.specs.Answers.{Call, Answers}

-- a line of words, with its end
abbrev pub ended : List ℕ → List ℕ
ended bytes = bytes ++ 10 ∷ []

-- ---- lines and statuses
pub record LineRows : Type 0 where
  pub vault : line_of (Err (stop.Failed device.Vault)) ≡ ended (codes "vault failed")
  pub input : line_of (Err (stop.Failed device.Input)) ≡ ended (codes "input failed")
  pub output : line_of (Err (stop.Failed device.Output)) ≡ ended (codes "output failed")
  pub tape : line_of (Err (stop.Failed device.Tape)) ≡ ended (codes "tape failed")
  pub failed : status_of (Err (stop.Failed device.Tape)) ≡ 74
  pub memory : line_of (Err stop.Memory) ≡ ended (codes "out of memory")
  pub no_memory : status_of (Err stop.Memory) ≡ 71
  pub absent : line_of (Err (stop.Absent (codes "Data.Nat"))) ≡ ended (codes "module Data.Nat not found")
  pub not_there : status_of (Err (stop.Absent (codes "Data.Nat"))) ≡ 66
  pub division : line_of (Ok (verdict.Trapped trap.DivisionByZero)) ≡ ended (codes "trap: division by zero")
  pub trapped : status_of (Ok (verdict.Trapped trap.DivisionByZero)) ≡ 2
  pub bound : line_of (Ok verdict.Running) ≡ ended (codes "step bound reached")
  pub running : status_of (Ok verdict.Running) ≡ 3
  pub done : line_of (Ok verdict.Ended) ≡ []

-- ---- devices that fail
-- out held nothing before, and these bytes behind; there are no tapes
abbrev pub put_out : List ℕ → Outside
put_out bytes = record { output_before = Some []; output = Some bytes; tapes_before = Some []; tapes = Some [] }

-- a run that puts a and then b
abbrev pub two_lines : List Event
two_lines = Event.line (codes "a") ∷ Event.line (codes "b") ∷ []

pub record BreakRows : Type 0 where
  -- a front of a command's text
  pub front_of_text : (texts : Texts) (r : Asked) → prints r.work ≡ true →
      worked texts [] r ≡ Ok (puts (ended (codes "checked Main 1"))) →
      Breaks texts [] r device.Output (put_out (codes "checked"))
  -- nothing, where the vault failed, which it does not under `gen`
  pub vault : (texts : Texts) (r : Asked) → asks_vault r.work ≡ true → Breaks texts [] r device.Vault (put_out [])
  pub no_vault_is_asked : (texts : Texts) (r : Asked) (n : ℕ) → r.work ≡ Work.gen n →
      Breaks texts [] r device.Vault (put_out []) → ⊥
  pub not_behind_the_vault : (texts : Texts) (r : Asked) → Breaks texts [] r device.Vault (put_out (codes "a")) → ⊥
  -- the first line and a front of the second one
  pub front_of_run : DidFront two_lines Failure.sink (put_out (ended (codes "a") ++ codes "b"))
  -- never the second line without the first one
  pub first_line_first : DidFront two_lines Failure.sink (put_out (codes "b")) → ⊥

-- ---- a call without words
-- err held nothing before, and these bytes behind; no device failed
abbrev pub no_words : List ℕ → Call
no_words told = record {
  words = [];
  seen = record {
    texts = None;
    input = Some [];
    outside = put_out [];
    failed = one_of ⊥ ⊥ ⊥ ⊥;
    missed = ⊥;
  };
  err_before = Some [];
  err = Some told;
  err_failed = ⊥;
}

pub record AnswerRows : Type 0 where
  pub usage : Answers (no_words (line usage_line)) 64
  -- with no other status but want of memory
  pub not_done : Answers (no_words []) 0 → ⊥
  pub not_failed : Answers (no_words (line usage_line)) 74 → ⊥
  -- and not in silence
  pub not_silent : Answers (no_words []) 64 → ⊥
