use Rattle.std.proofs.Common.{◌≡◌, ◌+◌, ◌<◌, ◌^◌, ◌++◌, drop, length, map}
use Rattle.qtt_syntax.specs.View.{module_of}
use Rattle.qtt_build.specs.Build.{modules_at}
use Rattle.qtt_build.specs.Answer.{task_of, tasks_from}
use Rattle.qtt_build.proofs.rank.jobs.Given as goal

abbrev pub invariant-loop-place : goal.invariant-loop-place
invariant-loop-place l = record {
  room : l.number + length (drop l.place-index l.places) < 2 ^ 32;
  same : map task_of l.jobs.items ++ tasks_from l.number
      (modules_at (map module_of l.texts) (drop l.place-index l.places)) ≡ tasks_from l.first
      (modules_at (map module_of l.texts) l.places);
}
