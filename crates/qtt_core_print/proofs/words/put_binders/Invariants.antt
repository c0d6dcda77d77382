use Rattle.std.proofs.Common.{◌≡◌, ◌++◌, ◌-◌}
use Rattle.qtt_core_print.specs.Printing.{behind_blanks, next_binders}
use Rattle.qtt_core_print.proofs.words.put_binders.Given as goal

abbrev pub invariant-loop-level : goal.invariant-loop-level
invariant-loop-level l =
    l.out.items ≡ l.fn.out.items ++ behind_blanks (next_binders l.depth (l.level - l.depth))
