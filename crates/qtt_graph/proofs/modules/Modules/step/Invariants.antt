use Rattle.std.proofs.Common.{◌≡◌, find, take, None}
use Rattle.qtt_graph.specs.Near.{goes_on_from}
use Rattle.qtt_graph.proofs.modules.Modules.step.Given as goal

abbrev pub invariant-loop-below : goal.invariant-loop-below
invariant-loop-below l =
    find (goes_on_from l.near.items l.target l.count) (take l.below-index l.below-items) ≡ None
