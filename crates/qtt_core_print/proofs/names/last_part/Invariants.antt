use Rattle.std.proofs.Common.{◌≡◌, ◌≤◌, [], take, drop}
use Rattle.qtt_core_print.specs.Names.{last_part}
use Rattle.qtt_core_print.proofs.names.last_part.Given as goal

pub record Read (l : goal.Live-loop-place) : Type 0 where
  pub behind : l.from ≤ l.place
  pub part : last_part (drop l.from (take l.place l.name)) (drop l.place l.name) ≡ last_part [] l.name

abbrev pub invariant-loop-place : goal.invariant-loop-place
invariant-loop-place l = Read l
