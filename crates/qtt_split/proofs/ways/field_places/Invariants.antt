use Rattle.std.proofs.Common.{◌≡◌, ◌++◌, suc, map, take}
use Rattle.qtt_term.specs.Substitution.{shift}
use Rattle.qtt_split.specs.Motive.{field_places}
use Rattle.qtt_split.proofs.ways.field_places.Given as goal

abbrev pub invariant-loop-field : goal.invariant-loop-field
invariant-loop-field l = field_places 1 l.count ≡ l.places.items ++ field_places 1 l.field

abbrev pub invariant-loop-place : goal.invariant-loop-place
invariant-loop-place l =
    l.places.items ≡ field_places 1 l.count ++ map (shift (suc l.count)) (take l.place-index l.behind)
