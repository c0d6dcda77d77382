use Rattle.std.proofs.Common.{◌≡◌, [], map, replicate}
use Rattle.qtt_graph.proofs.modules.empty_levels.Given as goal

abbrev pub invariant-loop-level : goal.invariant-loop-level
invariant-loop-level l = map (λ level. level.items) l.levels.items ≡ replicate l._level []
