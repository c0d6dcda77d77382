use Rattle.std.proofs.Common.{◌≡◌, map, drop}
use Rattle.std.specs.List.{list_any}
use Rattle.qtt_unify.specs.Equations.{is_clash}
use Rattle.qtt_unify.specs.View.{found}
use Rattle.qtt_unify.proofs.equations.some_clash.Given as goal

abbrev pub invariant-loop-it : goal.invariant-loop-it
invariant-loop-it l =
    list_any is_clash (map found l.found) ≡ list_any is_clash (map found (drop l.it-index l.found))
