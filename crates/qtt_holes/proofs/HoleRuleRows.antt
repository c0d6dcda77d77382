-- The worked examples of the way to a hole, derived.
use Rattle.std.proofs.Common.{refl, []}
use Rattle.std.proofs.lemmas.List.Elements.{All-nil}
use Rattle.qtt_term.specs.Contraction.{contract}
use Rattle.qtt_bidi.specs.Rules.{Agrees}
use Rattle.qtt_holes.specs.Hole.{fits_before}
use Rattle.qtt_holes.specs.Rules.{Passes, Walks, WalksLambda, HasHole}
use Rattle.qtt_holes.specs.HoleRuleRows.{HoleRuleRows}

pub hole_rule_rows_hold : HoleRuleRows
unfolding contract
hole_rule_rows_hold = record {
  is_left = HasHole.has_hole (Walks.in_lambda (WalksLambda.binder (record { bound = 0; made = 0; is = refl })
      Agrees.without_type (WalksLambda.body Walks.at_hole) tt)) (All-nil (Passes fits_before [] []));
  nothing_left = HasHole.has_hole (Walks.in_lambda (WalksLambda.binder (record { bound = 0; made = 0; is = refl })
      Agrees.without_type (WalksLambda.body Walks.at_hole) tt)) tt;
}
