use Rattle.qtt_programs.proofs.Worked.{loops-runs, boxed-runs, deletes-runs}
use Rattle.qtt_run_tests.proofs.tests.erased_parts.Goals as goal

pub rows-requires-clause-runnable : goal.rows-requires-clause-runnable
rows-requires-clause-runnable g c κs = loops-runs _ _ c.in_ok-loops.ensures c.item.ensures

pub rows-requires-2-clause-runnable : goal.rows-requires-2-clause-runnable
rows-requires-2-clause-runnable g c κs = boxed-runs _ _ c.in_ok-boxed.ensures c.item-2.ensures

pub rows-requires-3-clause-runnable : goal.rows-requires-3-clause-runnable
rows-requires-3-clause-runnable g c κs = deletes-runs _ _ c.in_ok-deletes.ensures c.item-3.ensures
