use Rattle.qtt_programs.proofs.Worked.{echo-runs}
use Rattle.qtt_run_tests.proofs.tests.echoed_lines.Goals as goal

pub rows-requires-clause-runnable : goal.rows-requires-clause-runnable
rows-requires-clause-runnable g c κs = echo-runs _ _ c.in_ok-echo.ensures c.item.ensures
