use Rattle.std.proofs.Common.{◌≡◌, take}
use Rattle.qtt_prims.specs.Lines.{line_of}
use Rattle.qtt_edge.proofs.line_cutter.line_end.Given as goal

abbrev pub invariant-loop-i : goal.invariant-loop-i
invariant-loop-i l = line_of (take l.i l.held) ≡ take l.i l.held
