use Rattle.std.proofs.Common.{◌≡◌, ◌++◌, map, take}
use Rattle.qtt_term.specs.View.{branches}
use Rattle.qtt_envconv.specs.Components.{seen}
use Rattle.qtt_envconv.proofs.components.push_branches.Given as goal

abbrev pub invariant-loop-branch : goal.invariant-loop-branch
invariant-loop-branch l =
    map seen l.all.items ≡ map seen l.initial.all.items ++ branches (take l.branch-index l.sources)
