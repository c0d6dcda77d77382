use Rattle.std.proofs.Common.{◌≡◌, map, drop}
use Rattle.qtt_term.specs.Term.{Terms}
use Rattle.qtt_split.specs.Group.{with_number}
use Rattle.qtt_module.specs.GroupCalls.{right_side}
use Rattle.qtt_module.proofs.bodies.core_at.Given as goal

abbrev pub invariant-loop-side : goal.invariant-loop-side
invariant-loop-side l = (ts : Terms) →
    with_number l.leaf (map right_side l.cores) ts ≡ with_number l.leaf (map right_side (drop l.side-index l.cores)) ts
