use Rattle.std.proofs.Common.{◌≡◌, map, drop}
use Rattle.qtt_syntax.specs.Tree.{shapes}
use Rattle.qtt_syntax.specs.View.{shape_of}
use Rattle.qtt_term.specs.Globals.{families}
use Rattle.qtt_term.specs.View.{terms, side_by_side}
use Rattle.qtt_match.specs.Match.{all_fit}
use Rattle.qtt_match.proofs.matching.+fits.Given as goal

abbrev pub invariant-all_fit-loop-place : goal.invariant-all_fit-loop-place
invariant-all_fit-loop-place l =
    all_fit (families l.env) (shapes (map shape_of l.patterns)) (side_by_side (terms l.values)) ≡
    all_fit (families l.env) (shapes (map shape_of (drop l.place l.patterns)))
    (side_by_side (terms (drop l.place l.values)))
