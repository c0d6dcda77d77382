use Rattle.qtt_programs.proofs.Worked.{overlapping-runs, doubling-runs, counting-runs}
use Rattle.qtt_run_tests.proofs.tests.larger_programs.Goals as goal

pub rows-requires-clause-runnable : goal.rows-requires-clause-runnable
rows-requires-clause-runnable g c κs = overlapping-runs _ _ c.in_ok-overlapping.ensures c.item.ensures

pub rows-requires-2-clause-runnable : goal.rows-requires-2-clause-runnable
rows-requires-2-clause-runnable g c κs = doubling-runs _ _ c.in_ok-doubling.ensures c.item-2.ensures

pub rows-requires-3-clause-runnable : goal.rows-requires-3-clause-runnable
rows-requires-3-clause-runnable g c κs = counting-runs _ _ _ c.in_ok-counting.ensures c.item-3.ensures
