-- Facts of a result that is an error.
use Rattle.std.proofs.Common.{ℕ, List, Option, Some, None, Result, Ok, Err, OnErr, refl, sym, ap}
use Rattle.std.proofs.lemmas.List.{append-nil}
use Rattle.qtt_edge.specs.Sink.{AddsFront}

pub on-err : {T E P : Type 0} (r : Result T E) → P → OnErr r P
on-err (Ok x) p = tt
on-err (Err e) p = p

-- where nothing was put, the first 0 bytes were
pub adds-none : (told : Option (List ℕ)) (bytes : List ℕ) → AddsFront told told bytes
adds-none None bytes = (0, refl)
adds-none (Some held) bytes = (0, ap Some (sym (append-nil held)))
