-- Lines that are told.
use Rattle.std.proofs.Common.{◌≡◌, ◌⊎◌, inl, inr, ℕ, List, Option}
use Rattle.qtt_edge.specs.Sink.{AddsFront}
use Rattle.qtt_cli.specs.Told.{Tells, Reports}

-- a line that is put is reported, else want of memory
pub reports : (status : ℕ) (due : List ℕ) (result : ℕ) (old new : Option (List ℕ)) (before now : ℕ) →
    ((result ≡ status) × Tells old new before now due) ⊎ ((result ≡ 71) × AddsFront old new due) →
    Reports status due result old new before now
reports status due result old new before now (inl told) = inl told
reports status due result old new before now (inr memory) = inr (memory.0, inl memory.1)
