use Rattle.std.proofs.Common.{take}
use Rattle.qtt_envconv.specs.Nodes.{nodes}
use Rattle.qtt_envconv.proofs.Likeness.{Pairing}
use Rattle.qtt_envconv.proofs.sameness.joined.Given as goal

abbrev pub invariant-loop-i : goal.invariant-loop-i
invariant-loop-i l =
    Pairing (nodes (take l.i l.left-items)) (nodes (take l.i l.rights.items)) l.initial.rest.items l.rest.items
