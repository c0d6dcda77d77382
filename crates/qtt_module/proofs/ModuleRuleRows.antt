-- The worked examples of what modules declare: they are accepted, as was computed.
use Rattle.std.proofs.Common.{◌≡◌, ℕ, List}
use Rattle.qtt_syntax.specs.Tree.{Item}
use Rattle.qtt_term.specs.Ask.{Ending}
use Rattle.qtt_term.specs.Entries.{prim_entries}
use Rattle.qtt_module.specs.Module.{Checked}
use Rattle.qtt_module.specs.ModuleRules.{DeclaresModule}
use Rattle.qtt_module.specs.Rows.{home, checks}
use Rattle.qtt_module.specs.ModuleRuleRows.{ModuleRuleRows}
use Rattle.qtt_module.proofs.Answers.{answers_are_so_holds}
use Rattle.qtt_module.proofs.Rows.{module_rows_hold}
use Rattle.qtt_module.proofs.Turned.{module_so}

declared : (n : ℕ) (is : List Item) (C : Checked) → checks n is ≡ Ending.ok C → DeclaresModule home prim_entries is C
declared n is C e = module_so home prim_entries is C (answers_are_so_holds.accepted home n prim_entries is C e)

pub module_rule_rows_hold : ModuleRuleRows
module_rule_rows_hold = record {
  says_hello = declared 0 _ _ module_rows_hold.says_hello;
  with_numbers = declared 0 _ _ module_rows_hold.with_numbers;
  one_hole = declared 0 _ _ module_rows_hold.one_hole;
}
