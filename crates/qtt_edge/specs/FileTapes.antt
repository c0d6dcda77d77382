-- Which tapes over files are open.
use Rattle.std.specs.Prelude.{Bool, List, map, is_some}
use Rattle.qtt_edge.specs.declared.adapters.file_tapes.FileTape.{FileTape}

-- whether each tape is open
abbrev pub open_flags : {F : Type 0} → List (FileTape F) → List Bool
open_flags tapes = map (λ tape. is_some tape.file) tapes
