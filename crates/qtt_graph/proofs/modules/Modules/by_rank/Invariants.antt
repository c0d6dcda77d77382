use Rattle.std.proofs.Common.{◌≡◌, map, length, take}
use Rattle.qtt_graph.specs.Levels.{levels}
use Rattle.qtt_graph.proofs.modules.Modules.by_rank.Given as goal

abbrev pub invariant-loop-place : goal.invariant-loop-place
invariant-loop-place l = map (λ level. level.items) l.levels.items ≡
    levels l.ranks.items (take l.place-index l.place-items) 0 (length l.self.texts.now)
