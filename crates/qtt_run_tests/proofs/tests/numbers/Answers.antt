use Rattle.qtt_programs.proofs.Worked.{least-by-minus-one-runs, greatest-and-one-runs}
use Rattle.qtt_run_tests.proofs.tests.numbers.Goals as goal

pub rows-requires-clause-runnable : goal.rows-requires-clause-runnable
rows-requires-clause-runnable g c κs = least-by-minus-one-runs _ _ c.in_ok-least.ensures c.item.ensures

pub rows-requires-2-clause-runnable : goal.rows-requires-2-clause-runnable
rows-requires-2-clause-runnable g c κs = greatest-and-one-runs _ _ c.in_ok-greatest.ensures c.item-2.ensures
