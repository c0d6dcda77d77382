use Rattle.qtt_module.proofs.ModuleRuleRows.{module_rule_rows_hold}
use Rattle.qtt_module.proofs.examples.modules_declared_as_worked.Goals as goal

pub returns : goal.returns
returns c = module_rule_rows_hold
