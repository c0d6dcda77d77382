use Rattle.std.proofs.Common.{◌≡◌, ◌++◌, take}
use Rattle.qtt_core_print.specs.Printing.{behind_blanks}
use Rattle.qtt_diag.proofs.parts.put_names.Given as goal

abbrev pub invariant-loop-name : goal.invariant-loop-name
invariant-loop-name l = l.out.items ≡ l.fn.out.items ++ behind_blanks (take l.name-index l.names)
