use Rattle.std.proofs.Common.{◌≡◌, ◌≤◌, ◌*◌, take, sum_by}
use Rattle.qtt_module.specs.declared.checked.Checked.{Checked}
use Rattle.qtt_cli.proofs.texts.definitions.Given as goal

abbrev pub invariant-loop-checked : goal.invariant-loop-checked
invariant-loop-checked l = record {
  sum : l.sum ≡ sum_by (λ (c : Checked). c.definitions) (take l.checked-index l.order);
  bounded : l.sum ≤ 4294967296 * l.checked-index;
}
