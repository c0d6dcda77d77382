use Rattle.std.proofs.Common.{◌≡◌, ◌++◌, take, drop}
use Rattle.qtt_term.specs.View.{terms, branches}
use Rattle.qtt_term.specs.Entries.{entries}
use Rattle.qtt_core_print.specs.Writing.{arguments_text, braced_text, branches_text}
use Rattle.qtt_core_print.proofs.printing.+printing.Given as goal

abbrev pub invariant-put_arguments-loop-argument : goal.invariant-put_arguments-loop-argument
invariant-put_arguments-loop-argument l =
    l.out.items ≡ l.fn.out.items ++
    arguments_text (entries l.names) l.depth (terms (take l.argument-index l.arguments))

abbrev pub invariant-put_braced-loop-argument : goal.invariant-put_braced-loop-argument
invariant-put_braced-loop-argument l =
    l.out.items ≡ l.fn.out.items ++ braced_text (entries l.names) l.depth (terms (take l.argument-index l.arguments))

abbrev pub invariant-put_branches-loop-place : goal.invariant-put_branches-loop-place
invariant-put_branches-loop-place l =
    l.out.items ++ branches_text (entries l.names) l.depth l.family l.place (branches (drop l.place l.branches)) ≡
    l.fn.out.items ++ branches_text (entries l.names) l.depth l.family 0 (branches l.branches)
