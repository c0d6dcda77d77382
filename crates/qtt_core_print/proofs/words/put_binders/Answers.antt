use Rattle.std.proofs.Common.{append_assoc}
use Rattle.qtt_core_print.proofs.Grown.{one_more_binder}
use Rattle.qtt_core_print.proofs.words.put_binders.Goals as goal

pub loop-level-preserved : goal.loop-level-preserved
loop-level-preserved c =
    rw (one_more_binder c.args.depth c.loop-level.level c.loop-level.auto.level)
    (simp (c.in_ok-put.ensures, c.loop-level.invariant, append_assoc) at c.in_ok-put_binder.ensures)
