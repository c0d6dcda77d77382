use Rattle.std.proofs.Common.{◌≡◌, ◌+◌, ◌-◌, ◌^◌, ◌<◌, drop, map}
use Rattle.std.specs.Prelude.{vec_len}
use Rattle.qtt_syntax.specs.View.{module_of}
use Rattle.qtt_build.specs.Built.{built_by_rank, nothing_yet}
use Rattle.qtt_build.specs.Build.{modules_at}
use Rattle.qtt_build.specs.Answer.{building_of, places_of, total}
use Rattle.qtt_build.proofs.ranks.built_by_rank.Given as goal

-- what is left is built behind what is built, under numbers that fit
abbrev pub invariant-loop-level : goal.invariant-loop-level
invariant-loop-level g l = record {
  room : vec_len l.building.order + total (places_of (drop l.level-index l.levels)) < 2 ^ 32 - 1;
  same : built_by_rank l.budget (building_of l.building)
      (map (modules_at (map module_of l.texts)) (places_of (drop l.level-index l.levels))) ≡ built_by_rank l.budget
      nothing_yet (map (modules_at (map module_of l.texts)) (places_of l.levels));
}
