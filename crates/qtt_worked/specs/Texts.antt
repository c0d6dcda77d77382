-- Texts of a build of one module.
use Rattle.std.specs.Prelude.{ℕ, cond, List, Some, None}
use Rattle.qtt_graph.specs.Graph.{same_name}
use Rattle.qtt_graph.specs.Rows.{M}
use Rattle.qtt_load.specs.Reading.{Texts}

-- the module Main has this text, and there is no other
abbrev pub only : List ℕ → Texts
only text = λ a. cond (same_name a M) (Some text) None
