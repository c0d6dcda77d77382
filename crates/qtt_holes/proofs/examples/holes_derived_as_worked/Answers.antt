use Rattle.qtt_holes.proofs.HoleRuleRows.{hole_rule_rows_hold}
use Rattle.qtt_holes.proofs.examples.holes_derived_as_worked.Goals as goal

pub returns : goal.returns
returns c = hole_rule_rows_hold
