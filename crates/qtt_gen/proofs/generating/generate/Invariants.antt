use Rattle.std.proofs.Common.{◌≡◌, ◌++◌, map, flat_map}
use Rattle.qtt_gen.specs.Generated.{below, module_at, modules_of}
use Rattle.qtt_gen.specs.Seen.{seen}
use Rattle.qtt_gen.proofs.generating.generate.Given as goal

abbrev pub invariant-loop-j : goal.invariant-loop-j
invariant-loop-j l =
    map seen l.modules.items ≡ flat_map modules_of (below l.i) ++ map (module_at l.i) (below l.j)

abbrev pub invariant-loop-i : goal.invariant-loop-i
invariant-loop-i l = map seen l.modules.items ≡ flat_map modules_of (below l.i)
