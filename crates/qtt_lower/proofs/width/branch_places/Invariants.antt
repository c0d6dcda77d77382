use Rattle.std.proofs.Common.{◌≡◌, ◌+◌, ◌++◌, drop}
use Rattle.qtt_closure.specs.View.{flat_branches}
use Rattle.qtt_lower.specs.Lowered.{branches_places, branches_width}
use Rattle.qtt_lower.specs.View.{position}
use Rattle.qtt_lower.proofs.width.branch_places.Given as goal

abbrev pub invariant-loop-k : goal.invariant-loop-k
invariant-loop-k l = record {
  places : l.places.items ++ branches_places (position l.position) l.place (flat_branches (drop l.k l.branches))
      ≡ branches_places (position l.position) l.first (flat_branches l.branches);
  end : l.place + branches_width (position l.position) (flat_branches (drop l.k l.branches))
      ≡ l.first + branches_width (position l.position) (flat_branches l.branches);
}
