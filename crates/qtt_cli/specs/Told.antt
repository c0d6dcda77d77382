-- The status of a call, and the line on err.
use Rattle.std.specs.Prelude.{◌≡◌, ℕ, List, [], ◌⊎◌, Option, codes, Result, Ok, Err}
use Rattle.qtt_edge.specs.Counts.{Rose}
use Rattle.qtt_edge.specs.Sink.{Adds, AddsFront}
use Rattle.qtt_diag.specs.Kept.{refusal}
use Rattle.qtt_diag.specs.Messages.{message}
use Rattle.qtt_outcome.specs.Outcome.{line, absent_line, usage_line, verdict_status, verdict_line}
use Rattle.qtt_cli.specs.declared.device.Device.{Device}
use Rattle.qtt_cli.specs.declared.device.Device.TheVariants as device
use Rattle.qtt_cli.specs.declared.stop.Stop.{Stop}
use Rattle.qtt_cli.specs.declared.stop.Stop.TheVariants as stop
use Rattle.qtt_cli.specs.declared.verdict.Verdict.{Verdict}
use Rattle.qtt_cli.specs.declared.verdict.Verdict.TheVariants as verdict
use Rattle.qtt_cli.specs.Views.{verdict_of}

abbrev pub device_line : Device → List ℕ
device_line device.Vault = codes "vault failed"
device_line device.Input = codes "input failed"
device_line device.Output = codes "output failed"
device_line device.Tape = codes "tape failed"

abbrev pub memory_line : List ℕ
memory_line = line (codes "out of memory")

abbrev pub status_of : Result Verdict Stop → ℕ
status_of (Ok v) = verdict_status (verdict_of v)
status_of (Err stop.Usage) = 64
status_of (Err (stop.Absent a)) = 66
status_of (Err (stop.Refused r)) = 1
status_of (Err (stop.Failed d)) = 74
status_of (Err stop.Memory) = 71

-- the line that is due; none where what was asked for is done
abbrev pub line_of : Result Verdict Stop → List ℕ
line_of (Ok v) = verdict_line (verdict_of v)
line_of (Err stop.Usage) = line usage_line
line_of (Err (stop.Absent a)) = line (absent_line a)
line_of (Err (stop.Refused r)) = line (message (refusal r))
line_of (Err (stop.Failed d)) = line (device_line d)
line_of (Err stop.Memory) = memory_line

-- err gained this line, or a front of it where its faults rose
abbrev pub Tells : Option (List ℕ) → Option (List ℕ) → ℕ → ℕ → List ℕ → Type 0
Tells old new before now due = Adds old new due ⊎ (Rose before now × AddsFront old new due)

-- a status with its line; or want of memory, with a front of the line or of the line of that
abbrev pub Reports : ℕ → List ℕ → ℕ → Option (List ℕ) → Option (List ℕ) → ℕ → ℕ → Type 0
Reports status due result old new before now =
    ((result ≡ status) × Tells old new before now due) ⊎
    ((result ≡ 71) × (AddsFront old new due ⊎ AddsFront old new memory_line))

-- how a call that went so is told
abbrev pub Finishes : Result Verdict Stop → ℕ → Option (List ℕ) → Option (List ℕ) → ℕ → ℕ → Type 0
Finishes (Ok verdict.Ended) result old new before now = (result ≡ 0) × Adds old new []
Finishes (Ok (verdict.Trapped k)) result old new before now =
    Reports 2 (line_of (Ok (verdict.Trapped k))) result old new before now
Finishes (Ok verdict.Running) result old new before now =
    Reports 3 (line_of (Ok verdict.Running)) result old new before now
Finishes (Err s) result old new before now = Reports (status_of (Err s)) (line_of (Err s)) result old new before now
