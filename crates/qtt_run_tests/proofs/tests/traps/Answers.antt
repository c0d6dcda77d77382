use Rattle.qtt_programs.proofs.Worked.{zero-first-runs, no-clause-first-runs, divides-by-zero-runs}
use Rattle.qtt_run_tests.proofs.tests.traps.Goals as goal

pub rows-requires-clause-runnable : goal.rows-requires-clause-runnable
rows-requires-clause-runnable g c κs = zero-first-runs _ _ c.in_ok-zero_first.ensures c.item.ensures

pub rows-requires-2-clause-runnable : goal.rows-requires-2-clause-runnable
rows-requires-2-clause-runnable g c κs = no-clause-first-runs _ _ c.in_ok-no_clause_first.ensures c.item-2.ensures

pub rows-requires-3-clause-runnable : goal.rows-requires-3-clause-runnable
rows-requires-3-clause-runnable g c κs = divides-by-zero-runs _ _ c.in_ok-divides.ensures c.item-3.ensures
