use Rattle.std.proofs.Common.{◌≡◌, ◌++◌, drop, map}
use Rattle.qtt_cli.specs.Views.{name_of}
use Rattle.qtt_cli.proofs.holes.add_names.Given as goal

abbrev pub invariant-loop-hole : goal.invariant-loop-hole
invariant-loop-hole l =
    l.names.items ++ map name_of (drop l.hole-index l.holes) ≡ l.fn.names.items ++ map name_of l.holes
