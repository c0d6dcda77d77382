-- What is answered of the graph of a build's modules.
use Rattle.std.specs.Prelude.{◌≡◌, ℕ, map, Result, Ok, Err}
use Rattle.std.specs.Global.{Vec}
use Rattle.qtt_graph.specs.declared.errors.GraphError.{GraphError}
use Rattle.qtt_graph.specs.declared.errors.GraphError.TheVariants.{Cycle, Memory}
use Rattle.qtt_graph.specs.Graph.{Graph}
use Rattle.qtt_graph.specs.Ranks.{ranks}

-- the modules by rank, or the ring that is told; of want of memory nothing is said
abbrev pub IsRanking : Graph → Result (Vec (Vec ℕ)) GraphError → Type 0
IsRanking g (Ok levels) = ranks g ≡ Ok (map (λ level. level.items) levels.items)
IsRanking g (Err (Cycle way)) = ranks g ≡ Err way.items
IsRanking g (Err Memory) = Unit {0}
