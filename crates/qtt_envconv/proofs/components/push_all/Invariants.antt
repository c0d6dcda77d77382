use Rattle.std.proofs.Common.{◌≡◌, ◌++◌, map, take}
use Rattle.qtt_envconv.specs.Components.{plain, seen}
use Rattle.qtt_envconv.proofs.components.push_all.Given as goal

abbrev pub invariant-loop-code : goal.invariant-loop-code
invariant-loop-code l =
    map seen l.all.items ≡ map seen l.initial.all.items ++ plain (take l.code-index l.terms)
