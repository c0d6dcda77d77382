use Rattle.std.proofs.Common.{◌≡◌, bytes_eq, map, drop}
use Rattle.std.specs.List.{list_any}
use Rattle.qtt_holes.specs.Hole.{Hole}
use Rattle.qtt_holes.specs.View.{hole}
use Rattle.qtt_module.proofs.sides.has_name.Given as goal

abbrev pub invariant-loop-hole : goal.invariant-loop-hole
invariant-loop-hole l =
    list_any (λ (x : Hole). bytes_eq x.name l.name) (map hole l.holes)
    ≡ list_any (λ (x : Hole). bytes_eq x.name l.name) (map hole (drop l.hole-index l.holes))
