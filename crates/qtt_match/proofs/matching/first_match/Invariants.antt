use Rattle.std.proofs.Common.{◌≡◌, map, drop}
use Rattle.qtt_term.specs.Globals.{families}
use Rattle.qtt_term.specs.View.{terms, side_by_side}
use Rattle.qtt_match.specs.Match.{first_match, first_from}
use Rattle.qtt_match.specs.View.{patterns_of}
use Rattle.qtt_match.proofs.matching.first_match.Given as goal

abbrev pub invariant-loop-place : goal.invariant-loop-place
invariant-loop-place l =
    first_match (families l.env) (map patterns_of l.clauses) (side_by_side (terms l.values)) ≡
    first_from (families l.env) l.place (map patterns_of (drop l.place l.clauses)) (side_by_side (terms l.values))
