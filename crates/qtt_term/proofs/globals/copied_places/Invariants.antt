use Rattle.std.proofs.Common.{◌≡◌, take}
use Rattle.std.specs.List.{filter}
use Rattle.qtt_term.specs.Keyed.{is_of}
use Rattle.qtt_term.proofs.globals.copied_places.Given as goal

abbrev pub invariant-loop-place : goal.invariant-loop-place
invariant-loop-place l = l.copies.items ≡ filter (λ p. is_of l.of p.con.family) (take l.place-index l.places)
