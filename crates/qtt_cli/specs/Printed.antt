-- What putting a text comes to.
use Rattle.std.specs.Prelude.{◌≡◌, ℕ, List, Option, Result, Ok, Err}
use Rattle.qtt_edge.specs.Sink.{Adds, AddsFront}
use Rattle.qtt_cli.specs.declared.device.Device.TheVariants as device
use Rattle.qtt_cli.specs.declared.stop.Stop.{Stop}
use Rattle.qtt_cli.specs.declared.stop.Stop.TheVariants as stop
use Rattle.qtt_cli.specs.declared.verdict.Verdict.{Verdict}
use Rattle.qtt_cli.specs.declared.verdict.Verdict.TheVariants as verdict

-- it is put, or a front of it where the output fails or memory runs out
abbrev pub Puts : List ℕ → Option (List ℕ) → Option (List ℕ) → Result Verdict Stop → Type 0
Puts bytes old new (Ok v) = (v ≡ verdict.Ended) × Adds old new bytes
Puts bytes old new (Err stop.Usage) = ⊥
Puts bytes old new (Err (stop.Absent a)) = ⊥
Puts bytes old new (Err (stop.Refused r)) = ⊥
Puts bytes old new (Err (stop.Failed device.Vault)) = ⊥
Puts bytes old new (Err (stop.Failed device.Input)) = ⊥
Puts bytes old new (Err (stop.Failed device.Output)) = AddsFront old new bytes
Puts bytes old new (Err (stop.Failed device.Tape)) = ⊥
Puts bytes old new (Err stop.Memory) = AddsFront old new bytes
