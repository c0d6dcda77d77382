use Rattle.std.proofs.Common.{◌≡◌, map, take}
use Rattle.qtt_envconv.specs.Shapes.{literal}
use Rattle.qtt_envconv.proofs.literal.copied_all.Given as goal

abbrev pub invariant-loop-literal : goal.invariant-loop-literal
invariant-loop-literal l = l.copies.items ≡ map literal (take l.literal-index l.literals)
