use Rattle.qtt_programs.proofs.Worked.{echo-runs}
use Rattle.qtt_run_tests.proofs.tests.long_lines.Goals as goal

pub rows-requires-clause-runnable : goal.rows-requires-clause-runnable
rows-requires-clause-runnable g c κs = echo-runs _ _ c.in_ok-echo.ensures c.item.ensures

pub rows-requires-2-clause-runnable : goal.rows-requires-2-clause-runnable
rows-requires-2-clause-runnable g c κs = echo-runs _ _ c.in_ok-echo.ensures c.item-2.ensures
