use Rattle.std.proofs.Common.{◌≡◌, ◌+◌, drop}
use Rattle.qtt_closure.specs.View.{flat_terms, flat_branches}
use Rattle.qtt_lower.specs.Lowered.{all_width, branches_width}
use Rattle.qtt_lower.specs.View.{position}
use Rattle.qtt_lower.proofs.width.+width.Given as goal

abbrev pub invariant-all-loop-source : goal.invariant-all-loop-source
invariant-all-loop-source l =
    l.total + all_width (flat_terms (drop l.source-index l.sources)) ≡ all_width (flat_terms l.sources)

abbrev pub invariant-all_branches-loop-k : goal.invariant-all_branches-loop-k
invariant-all_branches-loop-k l =
    l.total + branches_width (position l.position) (flat_branches (drop l.k l.branches)) ≡ branches_width
    (position l.position) (flat_branches l.branches)
