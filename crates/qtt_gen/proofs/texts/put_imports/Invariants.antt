use Rattle.std.proofs.Common.{◌≡◌, ◌++◌, map}
use Rattle.qtt_gen.specs.Generated.{written, below, import_line}
use Rattle.qtt_gen.proofs.texts.put_imports.Given as goal

abbrev pub invariant-loop-j : goal.invariant-loop-j
invariant-loop-j l = l.text.items ≡ l.fn.text.items ++ written (map (import_line l.i) (below l.j))
